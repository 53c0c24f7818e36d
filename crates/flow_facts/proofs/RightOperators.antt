-- Nodes whose operators are those of the grammar (JLS 3.12, 15): that of a node that is put, and that of an assignment.
use Rattle.std.specs.Prelude.{List, [], ◌∷◌, ℕ}
use Rattle.std.proofs.Common.{◌≡◌, refl, sym, ap, ◌∙◌, Option, Some, None, Bool, true, false, ◌==◌, inl, inr, slice_get, if◌then◌else◌, is_some, not}
use Rattle.scj_base.specs.Vocabulary.{sign_minus, sign_not, sign_tilde, sign_plus, sign_star, sign_slash, sign_percent, sign_and, sign_or, sign_xor, sign_shift_left, sign_shift_right, sign_shift_right_unsigned, sign_plus_assign, sign_minus_assign, sign_star_assign, sign_slash_assign, sign_percent_assign, sign_and_assign, sign_or_assign, sign_xor_assign, sign_shift_left_assign, sign_shift_right_assign, sign_shift_right_unsigned_assign, sign_plus_plus, sign_minus_minus}
use Rattle.scj_tree.specs.declared.nodes.Node.{Node}
use Rattle.scj_tree.specs.declared.nodes.Node.TheVariants.{Binary, Unary, Field}
use Rattle.scj_tree.specs.Nodes.{put}
use Rattle.scj_tree.specs.Terminals.{is_binary, level, compound, stepping}
use Rattle.scj_rules.specs.Words.{is_among}
use Rattle.accepted_laws.proofs.Lists.{get_either}
use Rattle.accepted_laws.proofs.Tools.{some_inj}

abbrev pub unary_operators : List ℕ
unary_operators = sign_minus ∷ (sign_not ∷ (sign_tilde ∷ []))

-- the operator of a node is one of the grammar's, and a field has its `=` exactly where it has a value
unfoldable pub has_right_operator : Node → Bool
has_right_operator (Binary position operator left right) = is_binary operator
has_right_operator (Unary position operator inner) = is_among operator unary_operators
has_right_operator (Field position name flags declared_type equals value) =
    if is_some equals then is_some value else not (is_some value)
has_right_operator _ = true

abbrev pub OperatorsRight : List Node → Type 0
OperatorsRight N = (id : ℕ) (node : Node) → slice_get N id ≡ Some node → has_right_operator node ≡ true

pub put_right : (N : List Node) (node : Node) → OperatorsRight N → has_right_operator node ≡ true →
    OperatorsRight (put N node)
put_right N node w e id other h = elim (get_either N node id other h) as (λ z. has_right_operator other ≡ true)
    [ inl g ↦ w id other g | inr s ↦ ap has_right_operator (sym s) ∙ e ]

-- ---- operators of assignments

choose : (t : Bool) (x : ℕ) (rest : Option ℕ) (op : ℕ) → is_binary x ≡ true → (rest ≡ Some op → is_binary op ≡ true) →
    (if t then Some x else rest) ≡ Some op → is_binary op ≡ true
choose true x rest op b h e = ap is_binary (sym (some_inj x op e)) ∙ b
choose false x rest op b h e = h e

pub compound_binary : (n op : ℕ) → compound n ≡ Some op → is_binary op ≡ true
unfolding compound level
compound_binary n op e =
    choose (n == sign_plus_assign) sign_plus _ op refl
    (choose (n == sign_minus_assign) sign_minus _ op refl
    (choose (n == sign_star_assign) sign_star _ op refl
    (choose (n == sign_slash_assign) sign_slash _ op refl
    (choose (n == sign_percent_assign) sign_percent _ op refl
    (choose (n == sign_and_assign) sign_and _ op refl
    (choose (n == sign_or_assign) sign_or _ op refl
    (choose (n == sign_xor_assign) sign_xor _ op refl
    (choose (n == sign_shift_left_assign) sign_shift_left _ op refl
    (choose (n == sign_shift_right_assign) sign_shift_right _ op refl
    (choose (n == sign_shift_right_unsigned_assign) sign_shift_right_unsigned None op refl
    (λ e. absurd (cc (e)))))))))))))
    e

pub stepping_binary : (n op : ℕ) → stepping n ≡ Some op → is_binary op ≡ true
unfolding stepping level
stepping_binary n op e =
    choose (n == sign_plus_plus) sign_plus _ op refl
    (choose (n == sign_minus_minus) sign_minus None op refl (λ e. absurd (cc (e)))) e
