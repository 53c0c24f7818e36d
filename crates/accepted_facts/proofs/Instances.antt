-- The facts at a whole controller, whose nodes are computed: none of the laws speaks of nothing.
use Rattle.std.proofs.Common.{◌≡◌, ℕ, [], ◌∷◌, refl, Some, None, codes}
use Rattle.scj_base.specs.declared.positions.Position.{Position}
use Rattle.scj_tree.specs.declared.nodes.Node.TheVariants.{Assign, Call, FieldAccess, New, Return, SimpleName}
use Rattle.scj_rules.specs.declared.typing.Scope.TheVariants.{Caller, In}
use Rattle.scj_rules.specs.declared.typing.Ty.TheVariants.{Class as ClassTy}
use Rattle.scj_rules.specs.Classes.{FoundMethod}
use Rattle.scj_rules.specs.Contexts.{Declarations, declarations_of}
use Rattle.scj_rules.proofs.Computing.{computing}
use Rattle.scj_rules.proofs.RowOfUse.{controller, controller_accepted, controller_is_forest}
use Rattle.accepted_laws.specs.Judgements.{Inside, Judged, IsValue}
use Rattle.accepted_laws.specs.Kinds.{number, reference, kind_of}
use Rattle.accepted_laws.specs.Sorts.{is_argument, is_expression}
use Rattle.accepted_laws.proofs.Instances.{controller_sorted}
use Rattle.accepted_facts.specs.Calls.{CallFacts, NewFacts}
use Rattle.accepted_facts.specs.Expressions.{AccessFacts, NameFacts}
use Rattle.accepted_facts.specs.Methods.{Dispatched}
use Rattle.accepted_facts.specs.Statements.{AssignFacts, ReturnFacts}
use Rattle.accepted_facts.proofs.AccessFacts.{access_facts}
use Rattle.accepted_facts.proofs.CallFacts.{call_facts}
use Rattle.accepted_facts.proofs.MethodKinds.{dispatched}
use Rattle.accepted_facts.proofs.NameFacts.{name_facts}
use Rattle.accepted_facts.proofs.NewFacts.{new_facts}
use Rattle.accepted_facts.proofs.ReturnFacts.{return_facts}
use Rattle.accepted_facts.proofs.StatementFacts.{assign_facts}

abbrev p : Declarations
p = declarations_of controller

abbrev at : ℕ → ℕ → Position
at line col = record { file = 1; line = line; col = col }

-- the tank's method `set` assigns `level = v`
set_inside : Inside p 105 19 103
unfolding computing
set_inside = record { here = (Assign (at 17 56) 101 102, refl); class = refl; member = refl }

set_assigns : AssignFacts p 105 19 103 101 102
set_assigns = assign_facts controller controller_accepted controller_is_forest controller_sorted 105 19 103 101 102 (at 17 56) refl set_inside

-- its method `get` returns `level`
get_inside : Inside p 112 19 110
unfolding computing
get_inside = record { here = (Return (at 18 44) (Some 109), refl); class = refl; member = refl }

get_returns : ReturnFacts p 112 19 110 109
get_returns = return_facts controller controller_accepted controller_is_forest controller_sorted 112 19 110 109 (at 18 44) refl get_inside

-- the mission makes `new Tank()` in its own scope
tank_inside : Inside p 89 18 59
unfolding computing
tank_inside = record { here = (New (at 5 14) (at 5 18) (codes "Tank") [], refl); class = refl; member = refl }

tank_judged : Judged p 59 (Some (reference (ClassTy 19) (In 18)))
unfolding computing Judged kind_of
tank_judged = refl

tank_is_made : NewFacts p 89 18 59 (codes "Tank") [] (reference (ClassTy 19) (In 18))
unfolding computing
tank_is_made = new_facts controller controller_accepted controller_is_forest controller_sorted 89 18 59 (at 5 14) (at 5 18) (codes "Tank") [] (reference (ClassTy 19) (In 18)) refl tank_inside refl tank_judged

-- the alarm calls `t.get()`
call_inside : Inside p 156 21 152
unfolding computing
call_inside = record { here = (Call (at 24 59) (codes "get") (Some 151) [], refl); class = refl; member = refl }

call_judged : Judged p 152 (Some number)
unfolding computing Judged kind_of
call_judged = refl

get_is_called : (f : FoundMethod) × CallFacts p 156 21 152 (Some 151) [] f (Some number)
unfolding computing
get_is_called = (_, call_facts controller controller_accepted controller_is_forest controller_sorted 156 21 152 (at 24 59) (codes "get") (Some 151) [] _ (Some number) refl call_inside refl refl refl call_judged)

-- the sensor reads the field of a box, `b.v`
access_inside : Inside p 215 22 203
unfolding computing
access_inside = record { here = (FieldAccess (at 31 13) (codes "v") 202, refl); class = refl; member = refl }

access_judged : Judged p 203 (Some number)
unfolding computing Judged kind_of
access_judged = refl

field_is_read : AccessFacts p 215 22 203 202 (codes "v") number
field_is_read = access_facts controller controller_accepted controller_is_forest controller_sorted 215 22 203 202 (at 31 13) (codes "v") number refl access_inside access_judged

-- and hands it to the tank, `t.set(b.v)`
set_call_inside : Inside p 215 22 204
unfolding computing
set_call_inside = record { here = (Call (at 31 7) (codes "set") (Some 201) (203 ∷ []), refl); class = refl; member = refl }

set_call_judged : Judged p 204 None
unfolding computing Judged
set_call_judged = refl

set_is_called : (f : FoundMethod) × CallFacts p 215 22 204 (Some 201) (203 ∷ []) f None
unfolding computing
set_is_called = (_, call_facts controller controller_accepted controller_is_forest controller_sorted 215 22 204 (at 31 7) (codes "set") (Some 201) (203 ∷ []) _ None refl set_call_inside refl refl refl set_call_judged)

-- the box is new, and made of a number
box_inside : Inside p 215 22 199
unfolding computing
box_inside = record { here = (New (at 30 13) (at 30 17) (codes "Box") (198 ∷ []), refl); class = refl; member = refl }

box_judged : Judged p 199 (Some (reference (ClassTy 20) (In 22)))
unfolding computing Judged kind_of
box_judged = refl

box_is_made : NewFacts p 215 22 199 (codes "Box") (198 ∷ []) (reference (ClassTy 20) (In 22))
unfolding computing
box_is_made = new_facts controller controller_accepted controller_is_forest controller_sorted 215 22 199 (at 30 13) (at 30 17) (codes "Box") (198 ∷ []) (reference (ClassTy 20) (In 22)) refl box_inside refl box_judged

-- `level` in `set` is a name
level_inside : Inside p 105 19 101
unfolding computing
level_inside = record { here = (SimpleName (at 17 50) (codes "level"), refl); class = refl; member = refl }

level_judged : Judged p 101 (Some number)
unfolding computing Judged kind_of
level_judged = refl

level_is_value : IsValue p 101 (SimpleName (at 17 50) (codes "level"))
unfolding computing is_argument is_expression
level_is_value = record { is_argument = refl; no_class = refl; no_form_part = refl }

level_is_named : NameFacts p 105 19 101 (codes "level") number
level_is_named = name_facts controller controller_accepted controller_is_forest controller_sorted 105 19 101 (at 17 50) (codes "level") number refl level_inside level_is_value level_judged

-- a call of the tank's method `get` on a tank runs a body
get_runs_body : Dispatched p 19 (codes "get") get_is_called.0 Caller
unfolding computing get_is_called
get_runs_body = dispatched controller controller_accepted controller_is_forest controller_sorted 19 19 _ _ (codes "get") get_is_called.0 Caller refl refl refl refl refl get_is_called.1.is_user refl refl
