-- How many operands a frame has: what each operation leaves of them, and whether there is room for those of the
-- operations that are left.
use Rattle.std.specs.Prelude.{Option, Some, None, slice_get}
use Rattle.std.proofs.Common.{◌≡◌, ℕ, ◌+◌, ◌*◌, ◌≤◌, zero, suc, List, [], ◌∷◌, ◌++◌, Bool, true, false, refl, sym, ap, ◌∙◌, subst, append_assoc, arith}
use Rattle.scj_tree.specs.declared.nodes.Node.{Node}
use Rattle.scj_tree.specs.declared.nodes.Node.TheVariants.{While, For}
use Rattle.scj_tree.specs.Heights.{height}
use Rattle.accepted_laws.specs.Kinds.{Kind}
use Rattle.accepted_laws.specs.Judgements.{Inside, Judged}
use Rattle.scj_model.specs.declared.operations.Op.{Op}
use Rattle.scj_model.specs.declared.operations.Op.TheVariants.{Push as PUSH, This as THIS, Load as LOAD, Get as GET, GetStatic as GETSTATIC, Length as LENGTH, Elem as ELEM, Unary as UNARY, Bin as BIN, And as AND, Or as OR, Alloc as ALLOC, Construct as CONSTRUCT, AllocArray as ALLOCARRAY, Call as CALL, CallStatic as CALLSTATIC, Cast as CAST, Enter as ENTER, ExecuteIn as EXECUTEIN, Same as SAME, SetCeiling as SETCEILING, Print as PRINT, Read as READ, Register as REGISTER, Release as RELEASE, Terminate as TERMINATE, Zero as ZERO, Store as STORE, Put as PUT, PutStatic as PUTSTATIC, PutElem as PUTELEM, If as IF, Loop as LOOP, LeaveWith as LEAVEWITH, Leave as LEAVE, Drop as DROP, Init as INIT, Super as SUPER, Params as PARAMS}
use Rattle.scj_model.specs.Code.{Code, binding, part}
use Rattle.scj_model.specs.Ops.{leaves_value, right_operand, if_parts}
use Rattle.scj_model.specs.Operations.{super_count}
use Rattle.scope_flow.specs.Needs.{IsStatement}
use Rattle.scope_flow.specs.Signatures.{Signature, IsBody}
use Rattle.scope_flow.specs.Ways.{form_count}
use Rattle.frame_sizes.specs.Sizes.{most_operands}

-- ---- counts

abbrev pub fewer : ℕ → ℕ
fewer zero = zero
fewer (suc n) = n

abbrev pub dropped : ℕ → ℕ → ℕ
dropped zero d = d
dropped (suc n) d = dropped n (fewer d)

abbrev pub with_result : Bool → ℕ → ℕ
with_result true d = suc d
with_result false d = d

unfoldable pub after : Code → Op → ℕ → ℕ
after code (PUSH id) d = suc d
after code (THIS id) d = suc d
after code (LOAD id) d = suc d
after code (GET id) d = suc (fewer d)
after code (GETSTATIC id) d = suc d
after code (LENGTH id) d = suc (fewer d)
after code (ELEM id) d = suc (fewer (fewer d))
after code (UNARY id) d = suc (fewer d)
after code (BIN id) d = suc (fewer (fewer d))
after code (AND id) d = suc (fewer d)
after code (OR id) d = suc (fewer d)
after code (ALLOC id) d = suc d
after code (CONSTRUCT id) d = dropped (super_count code id) d
after code (ALLOCARRAY id) d = suc (fewer d)
after code (CALL id) d = with_result (leaves_value (binding code id)) (fewer (dropped (super_count code id) d))
after code (CALLSTATIC id) d = with_result (leaves_value (binding code id)) (dropped (super_count code id) d)
after code (CAST id) d = suc (fewer d)
after code (ENTER id) d = fewer (fewer d)
after code (EXECUTEIN id) d = fewer (fewer d)
after code (SAME id) d = suc (fewer (fewer d))
after code (SETCEILING id) d = fewer (fewer d)
after code (PRINT id) d = fewer d
after code (READ id) d = suc (fewer d)
after code (REGISTER id) d = fewer d
after code (RELEASE id) d = fewer d
after code (TERMINATE id) d = fewer d
after code (ZERO id) d = d
after code (STORE id) d = fewer d
after code (PUT id) d = fewer (fewer d)
after code (PUTSTATIC id) d = fewer d
after code (PUTELEM id) d = fewer (fewer (fewer d))
after code (IF id) d = fewer d
after code (LOOP id) d = fewer d
after code (LEAVEWITH id) d = fewer d
after code LEAVE d = d
after code (DROP id) d = fewer d
after code (INIT id) d = d
after code (SUPER id) d = fewer (dropped (super_count code id) d)
after code (PARAMS id) d = dropped (form_count code id) d

-- ---- parts that may come in front, where so many operands are there

pub record Value (code : Code) (x d : ℕ) : Type 0 where
  pub body : ℕ
  pub class : ℕ
  pub sig : Signature
  pub is_body : IsBody code.program body class sig
  pub inside : Inside code.program body class x
  pub kind : Kind
  pub judged : Judged code.program x (Some kind)
  pub room : d + 9 * height code.program.nodes x ≤ most_operands

pub record Statement (code : Code) (x d : ℕ) : Type 0 where
  pub body : ℕ
  pub class : ℕ
  pub sig : Signature
  pub is_body : IsBody code.program body class sig
  pub is : IsStatement code.program body class x
  pub room : d + 9 * height code.program.nodes x ≤ most_operands

abbrev pub OptionStatement : Code → Option ℕ → ℕ → Type 0
OptionStatement code None d = Unit {0}
OptionStatement code (Some x) d = Statement code x d

abbrev pub LoopParts : Code → Node → ℕ → Type 0
LoopParts code (While position condition body) d = Statement code body d × Value code condition d
LoopParts code (For position first condition step body) d =
    Statement code body d × Statement code step d × Value code condition d
LoopParts code _ d = Unit {0}

abbrev pub Asked : Code → Op → ℕ → Type 0
Asked code (AND id) d = (right : ℕ) → part code right_operand id ≡ Some right → Value code right (fewer d)
Asked code (OR id) d = (right : ℕ) → part code right_operand id ≡ Some right → Value code right (fewer d)
Asked code (IF id) d =
    (parts : ℕ × Option ℕ) → part code if_parts id ≡ Some parts →
    Statement code parts.0 (fewer d) × OptionStatement code parts.1 (fewer d)
Asked code (LOOP id) d =
    (node : Node) → slice_get code.program.nodes id ≡ Some node → LoopParts code node (fewer d)
Asked code _ d = Unit {0}

-- ---- operations in a row

module _ (code : Code) where
  abbrev pub Fits : List Op → ℕ → Type 0
  Fits [] d = d ≤ most_operands
  Fits (op ∷ rest) d = (d ≤ most_operands) × Asked code op d × Fits rest (after code op d)

  pub fits_room : (ops : List Op) (d : ℕ) → Fits ops d → d ≤ most_operands
  fits_room [] d h = h
  fits_room (op ∷ rest) d h = h.0

  -- operations behind which so many are there, where so many are there before them
  pub record Brings (xs : List Op) (d e : ℕ) : Type 0 where
    pub is : (rest : List Op) → Fits rest e → Fits (xs ++ rest) d

  pub brings_none : (d : ℕ) → Brings [] d d
  brings_none d = record { is = λ rest h. h }

  pub brings_op : (op : Op) (d : ℕ) → d ≤ most_operands → Asked code op d → Brings (op ∷ []) d (after code op d)
  brings_op op d l a = record { is = λ rest h. (l, a, h) }

  pub brings_then : (xs ys : List Op) (d e g : ℕ) → Brings xs d e → Brings ys e g → Brings (xs ++ ys) d g
  brings_then xs ys d e g a b =
      record {
        is = λ rest h. subst (λ (zs : List Op). Fits zs d) (sym (append_assoc xs ys rest)) (a.is (ys ++ rest) (b.is rest h));
      }

  -- an operation behind others
  pub behind : (xs : List Op) (op : Op) (d e : ℕ) → Brings xs d e → e ≤ most_operands → Asked code op e →
      Brings (xs ++ op ∷ []) d (after code op e)
  behind xs op d e a l q = brings_then xs (op ∷ []) d e (after code op e) a (brings_op op e l q)

-- so many are pushed, and dropped again
abbrev pub more : ℕ → ℕ → ℕ
more zero d = d
more (suc n) d = more n (suc d)

pub more_is : (n d : ℕ) → more n d ≡ n + d
more_is zero d = let e : d ≡ zero + d = omega arith in e
more_is (suc n) d = let e : n + suc d ≡ suc n + d = omega arith in rw (more_is n (suc d)) e

fewer_more : (n d : ℕ) → fewer (more n (suc d)) ≡ more n d
fewer_more zero d = refl
fewer_more (suc n) d = fewer_more n (suc d)

pub dropped_more : (n d : ℕ) → dropped n (more n d) ≡ d
dropped_more zero d = refl
dropped_more (suc n) d = ap (dropped n) (fewer_more n d) ∙ dropped_more n d
