-- The texts of lines, written piece by piece.
use Rattle.std.proofs.Common.{◌≡◌, [], ◌∷◌, ◌++◌, true, false, codes, refl}
use Rattle.std.specs.Str.{is_utf8}
use Rattle.ssa_model.specs.definitions.Json.{Text, Json, member, no_members, object, compact}
use Rattle.ssa_json.specs.MemberTexts.{member_text}
use Rattle.ssa_json.specs.Writable.{IsOfProgram}
use Rattle.ssa_json.proofs.MemberTexts.{writes-member, writes-object}
use Rattle.ssa_json.proofs.OfProgram.{empty-of-program, member-of-program}

-- a command and a record, as the value of a line
pub line-written : (command record_value : Json) (t0 : Text) {t1 t2 t3 t4 : Text} → t1 ≡ t0 ++ 123 ∷ []
    → t2 ≡ t1 ++ member_text false (codes "command") command
    → t3 ≡ t2 ++ member_text true (codes "record") record_value
    → t4 ≡ t3 ++ 125 ∷ [] → t4 ≡ t0 ++ compact (object (member (codes "command") command (member (codes "record") record_value no_members)))
line-written command record_value t0 {t1 = t1} {t2 = t2} {t3 = t3} e0 e1 e2 e3 =
    let m2 = member (codes "record") record_value no_members in
    let m1 = member (codes "command") command m2 in
    writes-object t0 m1 e0
    (writes-member t1 false (codes "command") command m2 e1
    (writes-member t2 true (codes "record") record_value no_members e2
    e3))

pub line-of-program : (command record_value : Json)
    → is_utf8 (codes "command") ≡ true → IsOfProgram command
    → is_utf8 (codes "record") ≡ true → IsOfProgram record_value
    → IsOfProgram (object (member (codes "command") command (member (codes "record") record_value no_members)))
line-of-program command record_value n1 v1 n2 v2 =
    let m2 = member (codes "record") record_value no_members in
    let m1 = member (codes "command") command m2 in
    (member-of-program (codes "command") command m2 n1 refl v1
    (member-of-program (codes "record") record_value no_members n2 refl v2
    empty-of-program))
