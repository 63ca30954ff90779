use Rattle.ssa_model.proofs.ItemTexts.{joined}
use Rattle.ssa_session.proofs.reply_text.push_changed.Goals as goal

pub returns : goal.returns
returns c =
    joined c.args.text.now.items _ _ c.in_ok-extend_from_slice.ensures.items
    (joined c.extend_from_slice.new.self.items _ _ c.in_ok-push_paths.ensures.text
    (joined c.push_paths.new.text.items _ _ c.in_ok-extend_from_slice-2.ensures.items
    (joined c.extend_from_slice-2.new.self.items _ _ c.in_ok-push_string.ensures
    (joined c.push_string.new.text.items _ _ c.in_ok-extend_from_slice-3.ensures.items
    (joined c.extend_from_slice-3.new.self.items _ _ c.in_ok-push_number.ensures
    (joined c.push_number.new.text.items _ _ c.in_ok-extend_from_slice-4.ensures.items
    (joined c.extend_from_slice-4.new.self.items _ _ c.in_ok-push_paths-2.ensures.text
    (joined c.push_paths-2.new.text.items _ _ c.in_ok-extend_from_slice-5.ensures.items
    (joined c.extend_from_slice-5.new.self.items _ _ c.in_ok-push_paths-3.ensures.text
    (c.in_ok-push.ensures.items))))))))))
