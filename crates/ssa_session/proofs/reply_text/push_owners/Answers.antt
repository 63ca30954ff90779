use Rattle.ssa_model.proofs.ItemTexts.{joined}
use Rattle.ssa_session.proofs.reply_text.push_owners.Goals as goal

pub returns : goal.returns
returns c =
    joined c.args.text.now.items _ _ c.in_ok-extend_from_slice.ensures.items
    (joined c.extend_from_slice.new.self.items _ _ c.in_ok-push_managers.ensures
    (c.in_ok-push.ensures.items))
