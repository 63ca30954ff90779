-- Commands, and which JSON values are commands.
use Rattle.std.specs.Prelude.{List, [], ◌∷◌, Bool, true, false, not, ◌&&◌, ◌||◌, Option, Some, None, if◌then◌else◌, codes, is_some, option_and_then}
use Rattle.std.specs.List.{list_any, list_all}
use Rattle.ssa_model.specs.definitions.Json.{Text, text, truth, Json, scalar, list, object, Members, no_members, member, member_of, same_text, as_text}
use Rattle.ssa_model.specs.definitions.Schema.{is_text, list_of_texts, has_member}
use Rattle.ssa_model.specs.definitions.Parts.{Subresource, main, status, Actor}

-- A command as it is given, its moment and its path not yet read.
pub data Command : Type 0 where
  -- who, force, moment, object
  apply : Actor → Bool → Text → Json → Command
  -- who, moment, object
  update : Actor → Text → Json → Command
  strip : Command
  undo : Command
  redo : Command
  -- with the managers' entries
  show : Bool → Command
  -- element texts
  owners : List Text → Command
  log : Command

-- ---- the shape of commands

pub data MemberType : Type 0 where
  text_member : MemberType
  truth_member : MemberType
  texts_member : MemberType
  -- the name of a subresource
  part_member : MemberType
  any_member : MemberType

abbrev pub is_truth : Json → Bool
is_truth (scalar (truth b)) = true
is_truth _ = false

abbrev pub is_subresource : Json → Bool
is_subresource (scalar (text t)) = same_text t (codes "status")
is_subresource _ = false

abbrev pub is_of_type : MemberType → Json → Bool
is_of_type text_member v = is_text v
is_of_type truth_member v = is_truth v
is_of_type texts_member v = is_some (list_of_texts v)
is_of_type part_member v = is_subresource v
is_of_type any_member v = true

pub record MemberRule : Type 0 where
  pub name : Text
  pub type : MemberType
  pub required : Bool

-- a command's word in `do`, and its other members
pub record CommandRule : Type 0 where
  pub word : Text
  pub members : List MemberRule

abbrev pub needs : Text → MemberType → MemberRule
needs n t = record { name = n; type = t; required = true }

abbrev pub may_have : Text → MemberType → MemberRule
may_have n t = record { name = n; type = t; required = false }

-- the member is the command's word, or one of its other members
abbrev pub is_known_member : List MemberRule → Text → Json → Bool
is_known_member rules n v = same_text n (codes "do") || list_any (λ r. same_text n r.name && is_of_type r.type v) rules

abbrev pub are_known_members : List MemberRule → Members → Bool
are_known_members rules no_members = true
are_known_members rules (member n v ms) = is_known_member rules n v && are_known_members rules ms

abbrev pub follows_rule : Members → CommandRule → Bool
follows_rule ms rule = are_known_members rule.members ms && list_all (λ r. not r.required || has_member r.name ms) rule.members

abbrev pub word_of : Members → Option Text
word_of ms = option_and_then as_text (member_of (codes "do") ms)

-- the commands of a session
abbrev pub session_rules : List CommandRule
session_rules =
    record {
      word = codes "apply";
      members = needs (codes "at") text_member ∷ needs (codes "manager") text_member ∷ needs (codes "object") any_member
          ∷ may_have (codes "force") truth_member ∷ may_have (codes "subresource") part_member ∷ [];
    }
    ∷ record {
      word = codes "update";
      members = needs (codes "at") text_member ∷ needs (codes "manager") text_member ∷ needs (codes "object") any_member
          ∷ may_have (codes "subresource") part_member ∷ [];
    }
    ∷ record { word = codes "strip"; members = [] }
    ∷ record { word = codes "undo"; members = [] }
    ∷ record { word = codes "redo"; members = [] }
    ∷ record { word = codes "show"; members = may_have (codes "managed") truth_member ∷ [] }
    ∷ record { word = codes "owners"; members = needs (codes "path") texts_member ∷ [] }
    ∷ record { word = codes "log"; members = [] }
    ∷ []

-- the first of the rules that has the word
abbrev pub rule_among : List CommandRule → Text → Option CommandRule
rule_among [] word = None
rule_among (r ∷ rs) word = if same_text word r.word then Some r else rule_among rs word

-- the rule of the word
abbrev pub rule_of : Text → Option CommandRule
rule_of = rule_among session_rules

-- ---- reading a command

abbrev pub text_in : Option Json → Text
text_in (Some (scalar (text t))) = t
text_in _ = []

abbrev pub truth_in : Option Json → Bool
truth_in (Some (scalar (truth b))) = b
truth_in _ = false

abbrev pub value_in : Option Json → Json
value_in (Some v) = v
value_in None = object no_members

abbrev pub subresource_in : Option Json → Subresource
subresource_in None = main
subresource_in (Some v) = status

-- the manager that members name, and the subresource
abbrev pub actor_in : Members → Actor
actor_in ms = record { name = text_in (member_of (codes "manager") ms); part = subresource_in (member_of (codes "subresource") ms) }

abbrev pub texts_in : Option Json → List Text
texts_in (Some v) = elim (list_of_texts v) [ None ↦ [] | Some ts ↦ ts ]
texts_in None = []

-- the command of a word and members that follow its rule
abbrev pub command_with : Text → Members → Command
command_with word ms =
    if same_text word (codes "apply") then apply (actor_in ms) (truth_in (member_of (codes "force") ms))
    (text_in (member_of (codes "at") ms)) (value_in (member_of (codes "object") ms))
    else (if same_text word (codes "update") then update (actor_in ms) (text_in (member_of (codes "at") ms))
    (value_in (member_of (codes "object") ms))
    else (if same_text word (codes "strip") then strip
    else (if same_text word (codes "undo") then undo
    else (if same_text word (codes "redo") then redo
    else (if same_text word (codes "show") then show (truth_in (member_of (codes "managed") ms))
    else (if same_text word (codes "owners") then owners (texts_in (member_of (codes "path") ms))
    else log))))))

-- the command that a value is
abbrev pub command_of : Json → Option Command
command_of (object ms) =
    elim (word_of ms) [
      | None ↦ None
      | Some word ↦ (elim (rule_of word) [ None ↦ None | Some rule ↦ (if follows_rule ms rule then Some (command_with word ms) else None) ])
    ]
command_of (list vs) = None
command_of (scalar s) = None

-- the moment that a command gives
abbrev pub moment_of : Command → Option Text
moment_of (apply who force at v) = Some at
moment_of (update who at v) = Some at
moment_of strip = None
moment_of undo = None
moment_of redo = None
moment_of (show managed) = None
moment_of (owners ts) = None
moment_of log = None
