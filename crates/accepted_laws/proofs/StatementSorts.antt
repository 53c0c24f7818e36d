-- The children of a statement that was read are of the right sorts.
use Rattle.std.specs.Prelude.{List, None, Option, [], false, ℕ, ◌++◌, ◌∷◌}
use Rattle.std.proofs.Common.{refl, append_assoc}
use Rattle.scj_base.specs.declared.positions.Position.{Position}
use Rattle.scj_tree.specs.declared.nodes.Node.{Node}
use Rattle.scj_tree.specs.declared.nodes.Node.TheVariants.{LocalWithValue, Assign, Binary, Parenthesized, SimpleName, Number}
use Rattle.scj_tree.specs.Lexemes.{Lexeme}
use Rattle.scj_tree.specs.Nodes.{put, next}
use Rattle.scj_tree.specs.Shape.{children, optional}
use Rattle.scj_tree.specs.Statements.{name_twice, second_name, operation, AssignmentRead, assignment, compound_assignment, step_assignment, LocalTypeRead, plain_local, flagged_local, StatementRead, block, empty, local, local_with_value, assign_statement, call_statement, if_alone, if_else, while_statement, for_local, for_assignment, return_alone, return_value, StatementsRead, no_statement, one_statement_more}
use Rattle.accepted_laws.specs.Sorts.{Of, OptionOf, HasRightChildren, is_expression, is_type, is_target, is_flags, is_statement, is_assignment, is_for_start}
use Rattle.accepted_laws.proofs.SortSteps.{GoesOn, Reads, ReadsAll, made, stays, goes_then, goes_as, put_on, of_more, of_later, option_later, of_last, one_more, wider, assignment_is_statement, assignment_is_start}
use Rattle.accepted_laws.proofs.ExpressionSorts.{level_sorted, post_sorted, target_is, invocation_is}
use Rattle.accepted_laws.proofs.HeaderSorts.{flags_sorted, type_sorted}

name_sorted : (N : List Node) (q : Position) (w : List ℕ) → GoesOn N (put N (SimpleName q w)) (next N ∷ [])
unfolding HasRightChildren children
name_sorted N q w = put_on (SimpleName q w) stays tt

name_target : (N : List Node) (q : Position) (w : List ℕ) → Of is_target (put N (SimpleName q w)) (next N)
unfolding is_target
name_target N q w = of_last is_target N (SimpleName q w) refl

name_value : (N : List Node) (q : Position) (w : List ℕ) → Of is_expression (put N (SimpleName q w)) (next N)
unfolding is_expression
name_value N q w = of_last is_expression N (SimpleName q w) refl

second_sorted : (N : List Node) (q : Position) (w : List ℕ) → GoesOn (put N (SimpleName q w)) (name_twice N q w) (second_name N q w ∷ [])
second_sorted N q w = name_sorted (put N (SimpleName q w)) q w

twice_target : (N : List Node) (q : Position) (w : List ℕ) → Of is_target (name_twice N q w) (next N)
twice_target N q w = of_later is_target (second_sorted N q w) (name_target N q w)

twice_value : (N : List Node) (q : Position) (w : List ℕ) → Of is_expression (name_twice N q w) (second_name N q w)
twice_value N q w = name_value (put N (SimpleName q w)) q w

-- the operation on the name and a value, and the assignment of it
operated_sorted : {N M1 M : List Node} {target left right : ℕ} (p : Position) (op : ℕ) → GoesOn N M1 (target ∷ []) → GoesOn M1 M (left ∷ right ∷ []) → Of is_target M target → Of is_expression M left → Of is_expression M right
    → Reads is_assignment N (put (operation M p op left right) (Assign p target (next M))) (next (operation M p op left right))
unfolding HasRightChildren children is_expression is_assignment
operated_sorted {N} {M1} {M} {target} {left} {right} p op g h t l r =
    let b : Reads is_expression M1 (operation M p op left right) (next M) = made is_expression (Binary p op left right) h refl (l, r) in
    made is_assignment (Assign p target (next M)) (goes_then g b.goes) refl (of_more is_target M (Binary p op left right ∷ []) target t, b.is)

pub assignment_sorted : {N N1 : List Node} {i o : List Lexeme} {id : ℕ} → AssignmentRead N i N1 o id → Reads is_assignment N N1 id
unfolding HasRightChildren children is_assignment is_expression
assignment_sorted (assignment t e) =
    let a = post_sorted t in let b = level_sorted e in
    made is_assignment _ (goes_then a.goes b.goes) refl (of_later is_target b.goes (target_is t), b.is)
assignment_sorted (compound_assignment {N = N} {N1 = N1} {e = e} {w = w} {op = op} {p = p} {q = q} c d) =
    let a = level_sorted d in
    let x : Reads is_expression (name_twice N q w) (put N1 (Parenthesized p e)) (next N1) = made is_expression (Parenthesized p e) a.goes refl a.is in
    operated_sorted p op (name_sorted N q w) (goes_then (second_sorted N q w) x.goes) (of_later is_target x.goes (twice_target N q w)) (of_later is_expression x.goes (twice_value N q w)) x.is
assignment_sorted (step_assignment {N = N} {w = w} {op = op} {p = p} {q = q} c) =
    let x : Reads is_expression (name_twice N q w) (put (name_twice N q w) (Number p 1 false)) (next (name_twice N q w)) = made is_expression (Number p 1 false) stays refl tt in
    operated_sorted p op (name_sorted N q w) (goes_then (second_sorted N q w) x.goes) (of_later is_target x.goes (twice_target N q w)) (of_later is_expression x.goes (twice_value N q w)) x.is

-- flags and type of a local
record ReadsLocal (N N1 : List Node) (flags : Option ℕ) (t : ℕ) : Type 0 where
  goes : GoesOn N N1 (optional flags ++ t ∷ [])
  flags_are : OptionOf is_flags N1 flags
  type_is : Of is_type N1 t

local_sorted : {N N1 : List Node} {i o : List Lexeme} {flags : Option ℕ} {t : ℕ} → LocalTypeRead N i N1 o flags t → ReadsLocal N N1 flags t
local_sorted (plain_local t) = let a = type_sorted t in record { goes = a.goes; flags_are = tt; type_is = a.is }
local_sorted (flagged_local e f t) =
    let a = flags_sorted f in let b = type_sorted t in
    record { goes = goes_then a.goes b.goes; flags_are = option_later is_flags b.goes _ a.is; type_is = b.is }

mutual
  unfolding HasRightChildren children is_statement is_for_start

  pub statement_sorted : {N N1 : List Node} {i o : List Lexeme} {id : ℕ} → StatementRead N i N1 o id → Reads is_statement N N1 id
  statement_sorted (block d) = let a = statements_sorted d in made is_statement _ a.goes refl a.are
  statement_sorted empty = made is_statement _ stays refl tt
  statement_sorted (local d) = let a = local_sorted d in made is_statement _ a.goes refl (a.flags_are, a.type_is)
  statement_sorted (local_with_value {flags = flags} {t = t} {e = value} d e) =
      let a = local_sorted d in let b = level_sorted e in
      made is_statement _ (goes_as _ _ (append_assoc (optional flags) (t ∷ []) (value ∷ [])) (goes_then a.goes b.goes)) refl (option_later is_flags b.goes _ a.flags_are, of_later is_type b.goes a.type_is, b.is)
  statement_sorted (assign_statement d) = wider is_assignment is_statement assignment_is_statement (assignment_sorted d)
  statement_sorted (call_statement d) = let a = post_sorted d in made is_statement _ a.goes refl (invocation_is d)
  statement_sorted (if_alone c s e) =
      let a = level_sorted c in let b = statement_sorted s in
      made is_statement _ (goes_then a.goes b.goes) refl (of_later is_expression b.goes a.is, b.is, tt)
  statement_sorted (if_else c s e) =
      let a = level_sorted c in let b = statement_sorted s in let x = statement_sorted e in
      made is_statement _ (goes_then (goes_then a.goes b.goes) x.goes) refl (of_later is_expression (goes_then b.goes x.goes) a.is, of_later is_statement x.goes b.is, x.is)
  statement_sorted (while_statement c s) =
      let a = level_sorted c in let b = statement_sorted s in
      made is_statement _ (goes_then a.goes b.goes) refl (of_later is_expression b.goes a.is, b.is)
  statement_sorted (for_local {N = N} {N2 = N2} {t = t} {e = e} {w = w} {a = q} {b = p} d v c u s) =
      let k = type_sorted d in let l = level_sorted v in
      let f : Reads is_for_start N (put N2 (LocalWithValue p q w None t e)) (next N2) =
      made is_for_start (LocalWithValue p q w None t e) (goes_then k.goes l.goes) refl (tt, of_later is_type l.goes k.is, l.is) in
      let x = level_sorted c in let y = assignment_sorted u in let z = statement_sorted s in
      made is_statement _ (goes_then f.goes (goes_then x.goes (goes_then y.goes z.goes))) refl
      (of_later is_for_start (goes_then x.goes (goes_then y.goes z.goes)) f.is, of_later is_expression (goes_then y.goes z.goes) x.is, of_later is_assignment z.goes y.is, z.is)
  statement_sorted (for_assignment d c u s) =
      let f = wider is_assignment is_for_start assignment_is_start (assignment_sorted d) in
      let x = level_sorted c in let y = assignment_sorted u in let z = statement_sorted s in
      made is_statement _ (goes_then f.goes (goes_then x.goes (goes_then y.goes z.goes))) refl
      (of_later is_for_start (goes_then x.goes (goes_then y.goes z.goes)) f.is, of_later is_expression (goes_then y.goes z.goes) x.is, of_later is_assignment z.goes y.is, z.is)
  statement_sorted return_alone = made is_statement _ stays refl tt
  statement_sorted (return_value e) = let a = level_sorted e in made is_statement _ a.goes refl a.is

  pub statements_sorted : {N N1 : List Node} {i o : List Lexeme} {ids : List ℕ} → StatementsRead N i N1 o ids → ReadsAll is_statement N N1 ids
  statements_sorted no_statement = record { goes = stays; are = tt }
  statements_sorted (one_statement_more d s) = one_more is_statement _ _ (statements_sorted d) (statement_sorted s)
