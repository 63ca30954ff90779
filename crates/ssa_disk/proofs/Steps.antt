-- Steps on a disk, one after the other.
use Rattle.std.proofs.Common.{◌≡◌, ◌∙◌, refl}
use Rattle.ssa_model.specs.definitions.Json.{Text}
use Rattle.ssa_disk.specs.Files.{Files, IsAsBut, IsAsButTwo}

pub unchanged : (n : Text) (old new : Files) → new ≡ old → IsAsBut n old new
unchanged n old new same = record {
  own = λ i. (same i).own;
  place = λ i. (same i).place;
  others = λ p elsewhere. λ i. (same i).at p;
}

pub both : (n : Text) (old mid new : Files) → IsAsBut n old mid → IsAsBut n mid new → IsAsBut n old new
both n old mid new a b = record {
  own = b.own ∙ a.own;
  place = b.place ∙ a.place;
  others = λ p elsewhere. b.others p (λ here. elsewhere (here ∙ (λ i. a.place i n))) ∙ a.others p elsewhere;
}

pub then_two : (n m : Text) (old mid new : Files) → IsAsBut n old mid → IsAsButTwo n m mid new → IsAsButTwo n m old new
then_two n m old mid new a b = record {
  own = b.own ∙ a.own;
  place = b.place ∙ a.place;
  others = λ p not_n not_m.
      b.others p (λ here. not_n (here ∙ (λ i. a.place i n))) (λ here. not_m (here ∙ (λ i. a.place i m))) ∙ a.others p not_n;
}
