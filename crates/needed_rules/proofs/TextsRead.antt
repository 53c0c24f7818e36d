-- Each text is read as the nodes of its program.
use Rattle.std.specs.Prelude.{[], ◌∷◌, unwrap_or}
use Rattle.std.proofs.Common.{refl}
use Rattle.scj_lexer.proofs.Computing.{tokens_from}
use Rattle.scj_rules.specs.Syntax.{Reads}
use Rattle.needed_rules.proofs.ProgramA2Class.{a2_class}
use Rattle.needed_rules.proofs.ProgramA3Field.{a3_field}
use Rattle.needed_rules.proofs.ProgramA4Field.{a4_field}
use Rattle.needed_rules.proofs.ProgramA5Static.{a5_static}
use Rattle.needed_rules.proofs.ProgramA6Override.{a6_override}
use Rattle.needed_rules.proofs.ProgramE1New.{e1_new}
use Rattle.needed_rules.proofs.ProgramE2Call.{e2_call}
use Rattle.needed_rules.proofs.ProgramE3Argument.{e3_argument}
use Rattle.needed_rules.proofs.ProgramE4Assign.{e4_assign}
use Rattle.needed_rules.proofs.ProgramE5Store.{e5_store}
use Rattle.needed_rules.proofs.ProgramE5Undone.{e5_undone}
use Rattle.needed_rules.proofs.ProgramE5Unguarded.{e5_unguarded}
use Rattle.needed_rules.proofs.ProgramE6Return.{e6_return}
use Rattle.needed_rules.proofs.ProgramE7Enter.{e7_enter}
use Rattle.needed_rules.proofs.ProgramE8Execute.{e8_execute}
use Rattle.needed_rules.proofs.ProgramE10Array.{e10_array}
use Rattle.needed_rules.proofs.Reading.{read_alone, reading}
use Rattle.needed_rules.proofs.Texts.{a2_class_text, a3_field_text, a4_field_text, a5_static_text, a6_override_text, e1_new_text, e2_call_text, e3_argument_text, e4_assign_text, e5_store_text, e5_undone_text, e5_unguarded_text, e6_return_text, e7_enter_text, e8_execute_text, e10_array_text}

pub e1_new_reads : Reads (e1_new_text ∷ []) e1_new
unfolding reading
e1_new_reads =
    read_alone 1000 e1_new_text (unwrap_or (tokens_from 1000 0 [] e1_new_text) []) e1_new
    (15 ∷ 30 ∷ 49 ∷ 52 ∷ 56 ∷ []) refl refl refl refl

pub e2_call_reads : Reads (e2_call_text ∷ []) e2_call
unfolding reading
e2_call_reads =
    read_alone 1000 e2_call_text (unwrap_or (tokens_from 1000 0 [] e2_call_text) []) e2_call
    (15 ∷ 30 ∷ 54 ∷ 58 ∷ []) refl refl refl refl

pub e3_argument_reads : Reads (e3_argument_text ∷ []) e3_argument
unfolding reading
e3_argument_reads =
    read_alone 1000 e3_argument_text (unwrap_or (tokens_from 1000 0 [] e3_argument_text) []) e3_argument
    (15 ∷ 30 ∷ 49 ∷ 65 ∷ []) refl refl refl refl

pub e4_assign_reads : Reads (e4_assign_text ∷ []) e4_assign
unfolding reading
e4_assign_reads =
    read_alone 1000 e4_assign_text (unwrap_or (tokens_from 1000 0 [] e4_assign_text) []) e4_assign
    (15 ∷ 30 ∷ 54 ∷ 58 ∷ []) refl refl refl refl

pub e5_store_reads : Reads (e5_store_text ∷ []) e5_store
unfolding reading
e5_store_reads =
    read_alone 1000 e5_store_text (unwrap_or (tokens_from 1000 0 [] e5_store_text) []) e5_store
    (15 ∷ 30 ∷ 49 ∷ 53 ∷ []) refl refl refl refl

pub e5_undone_reads : Reads (e5_undone_text ∷ []) e5_undone
unfolding reading
e5_undone_reads =
    read_alone 2000 e5_undone_text (unwrap_or (tokens_from 2000 0 [] e5_undone_text) []) e5_undone
    (15 ∷ 30 ∷ 49 ∷ 82 ∷ 121 ∷ []) refl refl refl refl

pub e5_unguarded_reads : Reads (e5_unguarded_text ∷ []) e5_unguarded
unfolding reading
e5_unguarded_reads =
    read_alone 2000 e5_unguarded_text (unwrap_or (tokens_from 2000 0 [] e5_unguarded_text) []) e5_unguarded
    (15 ∷ 30 ∷ 49 ∷ 69 ∷ 107 ∷ []) refl refl refl refl

pub e6_return_reads : Reads (e6_return_text ∷ []) e6_return
unfolding reading
e6_return_reads =
    read_alone 1000 e6_return_text (unwrap_or (tokens_from 1000 0 [] e6_return_text) []) e6_return
    (15 ∷ 30 ∷ 57 ∷ 61 ∷ []) refl refl refl refl

pub e7_enter_reads : Reads (e7_enter_text ∷ []) e7_enter
unfolding reading
e7_enter_reads =
    read_alone 1000 e7_enter_text (unwrap_or (tokens_from 1000 0 [] e7_enter_text) []) e7_enter
    (15 ∷ 30 ∷ 50 ∷ 56 ∷ []) refl refl refl refl

pub e8_execute_reads : Reads (e8_execute_text ∷ []) e8_execute
unfolding reading
e8_execute_reads =
    read_alone 1000 e8_execute_text (unwrap_or (tokens_from 1000 0 [] e8_execute_text) []) e8_execute
    (15 ∷ 30 ∷ 51 ∷ 72 ∷ 83 ∷ []) refl refl refl refl

pub e10_array_reads : Reads (e10_array_text ∷ []) e10_array
unfolding reading
e10_array_reads =
    read_alone 1000 e10_array_text (unwrap_or (tokens_from 1000 0 [] e10_array_text) []) e10_array
    (15 ∷ 30 ∷ 51 ∷ 89 ∷ 92 ∷ []) refl refl refl refl

pub a2_class_reads : Reads (a2_class_text ∷ []) a2_class
unfolding reading
a2_class_reads =
    read_alone 1000 a2_class_text (unwrap_or (tokens_from 1000 0 [] a2_class_text) []) a2_class
    (15 ∷ 30 ∷ 48 ∷ 60 ∷ 65 ∷ 69 ∷ []) refl refl refl refl

pub a3_field_reads : Reads (a3_field_text ∷ []) a3_field
unfolding reading
a3_field_reads =
    read_alone 1000 a3_field_text (unwrap_or (tokens_from 1000 0 [] a3_field_text) []) a3_field
    (15 ∷ 30 ∷ 49 ∷ 54 ∷ 91 ∷ 94 ∷ []) refl refl refl refl

pub a4_field_reads : Reads (a4_field_text ∷ []) a4_field
unfolding reading
a4_field_reads =
    read_alone 1000 a4_field_text (unwrap_or (tokens_from 1000 0 [] a4_field_text) []) a4_field
    (15 ∷ 30 ∷ 49 ∷ 52 ∷ 89 ∷ 92 ∷ []) refl refl refl refl

pub a5_static_reads : Reads (a5_static_text ∷ []) a5_static
unfolding reading
a5_static_reads =
    read_alone 1000 a5_static_text (unwrap_or (tokens_from 1000 0 [] a5_static_text) []) a5_static
    (15 ∷ 30 ∷ 49 ∷ 52 ∷ 56 ∷ []) refl refl refl refl

pub a6_override_reads : Reads (a6_override_text ∷ []) a6_override
unfolding reading
a6_override_reads =
    read_alone 1000 a6_override_text (unwrap_or (tokens_from 1000 0 [] a6_override_text) []) a6_override
    (15 ∷ 30 ∷ 52 ∷ 59 ∷ 74 ∷ 78 ∷ []) refl refl refl refl
