-- Worked rows of the table: what clap's definitions make of a few words.
use Rattle.std.specs.Prelude.{◌≡◌, ◌∷◌, ◌++◌, List, [], Bool, Option, None, Some, codes, false, option_and_then, true}
use Rattle.std.specs.Option.{option_map_or}
use Rattle.clap.specs.Words.{Text, fault_of, first_of, subcommand_of}
use Rattle.clap.specs.declared.error.kind.ErrorKind.TheVariants.{ArgumentConflict, DisplayHelp, InvalidSubcommand, InvalidValue, MissingRequiredArgument, UnknownArgument, ValueValidation}
use Rattle.ssa_words.specs.Table.{Choice, IsStatus, table}
use Rattle.ssa_words.specs.Calls.{was_given}

abbrev pub apply_of_b_f : List Text → List Text
apply_of_b_f more = codes "apply" ∷ codes "b" ∷ codes "f" ∷ more

abbrev pub at_t : List Text → List Text
at_t more = codes "--at" ∷ codes "t" ∷ more

abbrev pub through : Text → List Text
through name = codes "--subresource" ∷ name ∷ []

abbrev pub through_status : List Text
through_status = through (codes "status")

abbrev pub update_by_one_word : List Text
update_by_one_word = codes "update" ∷ codes "b" ∷ codes "f" ∷ at_t (codes "--subresource=status" ∷ [])

abbrev pub by_m_with_force : List Text
by_m_with_force = apply_of_b_f (at_t (codes "--field-manager" ∷ codes "m" ∷ codes "--force-conflicts" ∷ []))

abbrev pub init_s_o_b : List Text → List Text
init_s_o_b more = codes "init" ∷ codes "s" ∷ codes "o" ∷ codes "b" ∷ more

abbrev pub with_depth : Text → List Text
with_depth n = init_s_o_b (codes "--depth" ∷ n ∷ [])

abbrev pub show_managed : List Text
show_managed = codes "show" ∷ codes "b" ∷ codes "--show-managed-fields" ∷ []

-- the row holds wherever the name of the subresource lies
abbrev pub Wherever : (Choice → Type 0) → Type 0
Wherever Row = (names : Choice) → IsStatus names → Row names

module _ (names : Choice) where
  -- the text that is matched for an argument of the word that was met
  abbrev pub text_in : Text → List Text → Option Text
  text_in id words = option_and_then (λ p. first_of id p.1) (subcommand_of (table names) words)

  -- whether that word has the flag
  abbrev pub flag_in : Text → List Text → Bool
  flag_in name words = option_map_or (λ p. was_given name p.1) (subcommand_of (table names) words) false

  -- `apply b f --at t` is by kubectl, through no subresource, without force.
  abbrev pub ApplyIsByKubectl : Type 0
  ApplyIsByKubectl = (fault_of (table names) (apply_of_b_f (at_t [])) ≡ [])
      × (text_in (codes "BENCH") (apply_of_b_f (at_t [])) ≡ Some (codes "b"))
      × (text_in (codes "FILE") (apply_of_b_f (at_t [])) ≡ Some (codes "f"))
      × (text_in (codes "at") (apply_of_b_f (at_t [])) ≡ Some (codes "t"))
      × (text_in (codes "field-manager") (apply_of_b_f (at_t [])) ≡ Some (codes "kubectl"))
      × (text_in (codes "subresource") (apply_of_b_f (at_t [])) ≡ None)
      × (flag_in (codes "force-conflicts") (apply_of_b_f (at_t [])) ≡ false)

  -- `apply b f --at t --field-manager m --force-conflicts` is by m, with force.
  abbrev pub ApplyIsByManager : Type 0
  ApplyIsByManager = (fault_of (table names) by_m_with_force ≡ [])
      × (text_in (codes "field-manager") by_m_with_force ≡ Some (codes "m"))
      × (flag_in (codes "force-conflicts") by_m_with_force ≡ true)

  -- `apply b f --at t --subresource status` is through it, and so is an Update by one word.
  abbrev pub StatusIsRead : Type 0
  StatusIsRead = (fault_of (table names) (apply_of_b_f (at_t through_status)) ≡ [])
      × (text_in (codes "subresource") (apply_of_b_f (at_t through_status)) ≡ Some (codes "status"))
      × (fault_of (table names) update_by_one_word ≡ [])
      × (text_in (codes "subresource") update_by_one_word ≡ Some (codes "status"))

  -- Another subresource is refused, also the name in capitals, none and two; so is one where nothing
  -- is written.
  abbrev pub OtherSubresourcesAreRefused : Type 0
  OtherSubresourcesAreRefused = (fault_of (table names) (apply_of_b_f (at_t (through (codes "scale")))) ≡ InvalidValue ∷ [])
      × (fault_of (table names) (apply_of_b_f (at_t (through (codes "Status")))) ≡ InvalidValue ∷ [])
      × (fault_of (table names) (apply_of_b_f (at_t (through []))) ≡ InvalidValue ∷ [])
      × (fault_of (table names) (apply_of_b_f (at_t (codes "--subresource" ∷ []))) ≡ InvalidValue ∷ [])
      × (fault_of (table names) (apply_of_b_f (at_t (through_status ++ through_status))) ≡ ArgumentConflict ∷ [])
      × (fault_of (table names) (codes "strip" ∷ codes "b" ∷ through_status) ≡ UnknownArgument ∷ [])

  -- `init s o b` is of depth 1000, and of that which the words give, from 1 to 1000.
  abbrev pub DepthIsRead : Type 0
  DepthIsRead = (fault_of (table names) (init_s_o_b []) ≡ [])
      × (text_in (codes "BENCH") (init_s_o_b []) ≡ Some (codes "b"))
      × (text_in (codes "depth") (init_s_o_b []) ≡ Some (codes "1000"))
      × (fault_of (table names) (with_depth (codes "1")) ≡ [])
      × (text_in (codes "depth") (with_depth (codes "1")) ≡ Some (codes "1"))
      × (fault_of (table names) (with_depth (codes "1000")) ≡ [])

  -- Another depth is refused, and so is one where nothing is written, and one that is given to another word.
  abbrev pub OtherDepthsAreRefused : Type 0
  OtherDepthsAreRefused = (fault_of (table names) (with_depth (codes "0")) ≡ ValueValidation ∷ [])
      × (fault_of (table names) (with_depth (codes "1001")) ≡ ValueValidation ∷ [])
      × (fault_of (table names) (with_depth (codes "99999999999999999999")) ≡ ValueValidation ∷ [])
      × (fault_of (table names) (with_depth (codes "ten")) ≡ ValueValidation ∷ [])
      × (fault_of (table names) (init_s_o_b (codes "--depth=-1" ∷ [])) ≡ ValueValidation ∷ [])
      × (fault_of (table names) (init_s_o_b (codes "--depth" ∷ [])) ≡ InvalidValue ∷ [])
      × (fault_of (table names) (codes "strip" ∷ codes "b" ∷ codes "--depth" ∷ codes "2" ∷ []) ≡ UnknownArgument ∷ [])

  -- `show b --show-managed-fields` shows them.
  abbrev pub ShowIsRead : Type 0
  ShowIsRead = (fault_of (table names) show_managed ≡ []) × (text_in (codes "BENCH") show_managed ≡ Some (codes "b"))
      × (flag_in (codes "show-managed-fields") show_managed ≡ true)

  -- An Apply without its moment is refused, and one with two; so is a word that is none, and one alone.
  abbrev pub OthersAreRefused : Type 0
  OthersAreRefused = (fault_of (table names) (apply_of_b_f []) ≡ MissingRequiredArgument ∷ [])
      × (fault_of (table names) (apply_of_b_f (at_t (at_t []))) ≡ ArgumentConflict ∷ [])
      × (fault_of (table names) (codes "other" ∷ codes "b" ∷ []) ≡ UnknownArgument ∷ InvalidSubcommand ∷ [])
      × (fault_of (table names) (codes "strip" ∷ []) ≡ MissingRequiredArgument ∷ [])
      × (fault_of (table names) (codes "strip" ∷ codes "b" ∷ codes "c" ∷ []) ≡ UnknownArgument ∷ [])

  -- `apply --help` asks for help.
  abbrev pub HelpIsAsked : Type 0
  HelpIsAsked = fault_of (table names) (codes "apply" ∷ codes "--help" ∷ []) ≡ DisplayHelp ∷ []
