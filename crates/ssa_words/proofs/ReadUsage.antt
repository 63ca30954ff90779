-- A fault of the parse, told as a usage.
use Rattle.std.proofs.Common.{◌≡◌, true, List, subst, inl, inr}
use Rattle.clap.specs.Walk.{Text}
use Rattle.clap.specs.Values.{kind_of}
use Rattle.clap.specs.Kinds.{HasKind, Kinds}
use Rattle.clap.specs.Faults.{fault_of}
use Rattle.clap.specs.declared.error.Error.{Error}
use Rattle.ssa_words.specs.Table.{Choice, IsStatus, table}
use Rattle.ssa_words.specs.Calls.{IsUsage, IsUsageOf, is_asked}
use Rattle.ssa_words.specs.declared.usage.Usage.{Usage}
use Rattle.ssa_words.specs.declared.usage.Usage.TheVariants.{Asked, Refused, OutOfMemory}

module _ (names : Choice) (is_status : IsStatus names) (words : List Text) (fault : Error) where
  usage_of : (u : Usage) → HasKind (fault_of (table names) words) fault → IsUsageOf (kind_of fault) u → IsUsage words u
  usage_of OutOfMemory has is = tt
  usage_of (Asked text) (inl e) is =
      let bad = subst (λ k. is_asked k ≡ true) e is in cc
  usage_of (Asked text) (inr among) is = (names, is_status, kind_of fault, among, is)
  usage_of (Refused text) (inl e) is = absurd (is.1 e)
  usage_of (Refused text) (inr among) is = (names, is_status, kind_of fault, among, is)

  -- a fault of a kind that clap's definitions tell of the words is told as the usage of the words
  pub usage_by : (u : Usage) {kinds : Kinds} → kinds ≡ fault_of (table names) words → HasKind kinds fault → IsUsageOf (kind_of fault) u → IsUsage words u
  usage_by u same has is = usage_of u (subst (λ k. HasKind k fault) same has) is
