-- Laws of the words for what is written: a beginning of the bytes, and one behind others.
use Rattle.std.proofs.Common.{◌≡◌, ℕ, List, ◌++◌, Option, Result, Ok, Err, OnErr, length, drop, refl, ap, sym, ◌∙◌, append_assoc, take-append-drop}
use Rattle.std.proofs.Transfers.{starts_with_of_eq, starts_with_of_append}
use Rattle.std.proofs.KnownBytes.{Appends-trans}
use Rattle.std.specs.Io.{StartsWith}
use Rattle.std.specs.Io.KnownBytes.{Appends}
use Rattle.ssa_json.specs.Devices.{AppendsPart}

-- all the bytes are a beginning of them
pub AppendsPart-whole : (a b : Option (List ℕ)) (bytes : List ℕ) → Appends a b bytes → AppendsPart a b bytes
AppendsPart-whole a b bytes h = record { beginning = bytes; begins = starts_with_of_eq bytes bytes refl; writes = h }

StartsWith-after : (xs ys bs : List ℕ) → StartsWith ys bs → StartsWith (xs ++ ys) (xs ++ bs)
StartsWith-after xs ys bs h =
    let split : ys ≡ bs ++ drop (length bs) ys = sym (take-append-drop (length bs) ys) ∙ ap (λ t. t ++ drop (length bs) ys) h in
    starts_with_of_append (xs ++ ys) (xs ++ bs) (drop (length bs) ys) (ap (λ t. xs ++ t) split ∙ sym (append_assoc xs bs (drop (length bs) ys)))

-- some bytes, and a beginning of others after them
pub AppendsPart-after : (a b c : Option (List ℕ)) (xs ys : List ℕ) → Appends a b xs → AppendsPart b c ys → AppendsPart a c (xs ++ ys)
AppendsPart-after a b c xs ys front part = record {
  beginning = xs ++ part.beginning;
  begins = StartsWith-after xs ys part.beginning part.begins;
  writes = Appends-trans a b c xs part.beginning front part.writes;
}

pub OnErr-always : {T E : Type 0} (r : Result T E) (P : Type 0) → P → OnErr r P
OnErr-always (Ok x) P h = tt
OnErr-always (Err e) P h = h
