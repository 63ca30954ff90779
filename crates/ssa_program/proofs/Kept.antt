-- What a call leaves on the disk, by what its steps leave.
use Rattle.std.proofs.Common.{◌≡◌, ◌∙◌, sym, subst, Bool, true, Option, Some, None}
use Rattle.ssa_model.specs.definitions.Json.{Text}
use Rattle.ssa_disk.specs.Files.{Files, IsAsBut, draft_of}
use Rattle.ssa_program.specs.Done.{ComesTo, EndsAs, WithDraft}
use Rattle.ssa_program.specs.Kept.{IsKept, IsKeptBy, IsPut}
use Rattle.ssa_program.specs.Outcome.{Outcome}
use Rattle.ssa_program.specs.Stops.{IsSaid}
use Rattle.ssa_program.specs.declared.status.Status.{Status}

-- a call that has changed nothing has left all but the draft
pub untouched : (n : Text) (old new : Files) → new ≡ old → IsAsBut n old new
untouched n old new same = record {
  own = λ i. (same i).own;
  place = λ i. (same i).place;
  others = λ p elsewhere. λ i. (same i).at p;
}

pub joined : (n : Text) (old mid new : Files) → IsAsBut n old mid → IsAsBut n mid new → IsAsBut n old new
joined n old mid new a b = record {
  own = b.own ∙ a.own;
  place = b.place ∙ a.place;
  others = λ p elsewhere. b.others p (λ here. elsewhere (here ∙ (λ i. a.place i n))) ∙ a.others p elsewhere;
}

-- the draft is made and the text is put, under these names or others that are the same
pub put_after : (text draft draft_name place place_name : Text) (old locked new : Files) → draft ≡ draft_name → place ≡ place_name
    → IsAsBut draft old locked → IsPut text draft place locked new → IsPut text draft_name place_name old new
put_after text draft draft_name place place_name old locked new same_draft same_place a k = record {
  saved = (λ i. new.at (new.place (sym same_place i))) ∙ k.saved;
  others = record {
    own = k.others.own ∙ a.own;
    place = k.others.place ∙ a.place;
    others = λ p not_draft not_place.
        k.others.others p
        (λ is. not_draft (is ∙ (λ i. a.place i draft) ∙ (λ i. old.place (same_draft i))))
        (λ is. not_place (is ∙ (λ i. a.place i place) ∙ (λ i. old.place (same_place i))))
        ∙ a.others p (λ is. not_draft (is ∙ (λ i. old.place (same_draft i))));
  };
}

-- the draft is made, the text is put, and the draft has gone with it
pub saved : (text bench draft place : Text) (old locked new : Files) → draft ≡ draft_of old bench → old.place place ≡ old.place bench
    → IsAsBut draft old locked → IsPut text draft place locked new → IsPut text (draft_of old bench) bench old new
saved text bench draft place old locked new same leads a k =
    let places = k.others.place ∙ a.place in
    let here = (λ i. places i bench) ∙ sym leads ∙ sym (λ i. places i place) in
    record {
      saved = (λ i. new.at (here i)) ∙ k.saved;
      others = record {
        own = k.others.own ∙ a.own;
        place = places;
        others = λ p not_draft not_bench.
            k.others.others p
            (λ is. not_draft (is ∙ (λ i. a.place i draft) ∙ (λ i. old.place (same i))))
            (λ is. not_bench (is ∙ (λ i. a.place i place) ∙ leads))
            ∙ a.others p (λ is. not_draft (is ∙ (λ i. old.place (same i))));
      };
    }

pub left : (bench draft : Text) (old locked last new : Files) → draft ≡ draft_of old bench
    → IsAsBut draft old locked → IsAsBut draft locked last → IsAsBut draft last new → IsAsBut (draft_of old bench) old new
left bench draft old locked last new same a b c =
    subst (λ d. IsAsBut d old new) same (joined draft old last new (joined draft old locked last a b) c)

pub kept : (text : Option Text) (placed : Bool) (bench draft place : Text) (old locked last new : Files)
    → draft ≡ draft_of old bench → old.place place ≡ old.place bench → IsAsBut draft old locked
    → IsKeptBy text placed draft place locked last → (placed ≡ true → new ≡ last) → IsAsBut draft last new
    → IsKept text bench old new
kept None placed bench draft place old locked last new same leads a k stays ended = left bench draft old locked last new same a k ended
kept (Some text) placed bench draft place old locked last new same leads a k stays ended =
    subst (λ f. IsPut text (draft_of old bench) bench old f) (sym (stays k.0)) (saved text bench draft place old locked last same leads a k.1)

-- the same of what a call comes to on the files with the draft
pub comes : (Is : Files → Outcome → Type 0) (Writes : Text → Type 0) (said placed : Bool) (bench draft place : Text) (old locked last new : Files)
    → draft ≡ draft_of old bench → old.place place ≡ old.place bench → IsAsBut draft old locked
    → (placed ≡ true → new ≡ last) → IsAsBut draft last new
    → ComesTo (Is locked) (IsSaid said (λ text. IsKeptBy text placed draft place locked last)) Writes
    → WithDraft bench old (λ files. ComesTo (Is files) (IsSaid said (λ text. IsKept text bench old new)) Writes)
comes Is Writes said placed bench draft place old locked last new same leads a stays ended e = record {
  locked = locked;
  draft = subst (λ d. IsAsBut d old locked) same a;
  work = record {
    outcome = e.outcome;
    is = e.is;
    keeps = (e.keeps.0, kept e.outcome.saved placed bench draft place old locked last new same leads a e.keeps.1 stays ended);
    writes = e.writes;
  };
}

pub ends : (Is : Files → Outcome → Type 0) (Writes : Text → Type 0) (s : Status) (placed : Bool) (bench draft place : Text) (old locked last new : Files)
    → draft ≡ draft_of old bench → old.place place ≡ old.place bench → IsAsBut draft old locked
    → (placed ≡ true → new ≡ last) → IsAsBut draft last new
    → EndsAs (Is locked) (λ text. IsKeptBy text placed draft place locked last) Writes s
    → WithDraft bench old (λ files. EndsAs (Is files) (λ text. IsKept text bench old new) Writes s)
ends Is Writes s placed bench draft place old locked last new same leads a stays ended e = record {
  locked = locked;
  draft = subst (λ d. IsAsBut d old locked) same a;
  work = record {
    comes_to = record {
      outcome = e.comes_to.outcome;
      is = e.comes_to.is;
      keeps = kept e.comes_to.outcome.saved placed bench draft place old locked last new same leads a e.comes_to.keeps stays ended;
      writes = e.comes_to.writes;
    };
    status = e.status;
  };
}
