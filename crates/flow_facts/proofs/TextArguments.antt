-- An argument is an expression or a text; and small steps along lists of types.
use Rattle.std.proofs.Common.{◌≡◌, ℕ, List, ◌∷◌, refl, sym, Option, Some, None, Bool, true, false, ◌&&◌, true≢false, ◌⊎◌, inl, inr, option_map}
use Rattle.scj_base.specs.declared.positions.Position.{Position}
use Rattle.scj_tree.specs.declared.nodes.Node.{Node}
use Rattle.scj_tree.specs.declared.nodes.Node.TheVariants.{Text, Binary, Unary, Cast, Parenthesized, SimpleName, FieldAccess, Call, Element, New, NewArray, Number, True, False, Null, This as ThisNode}
use Rattle.scj_rules.specs.declared.typing.Ty.{Ty}
use Rattle.accepted_laws.specs.Sorts.{is_argument, is_expression}
use Rattle.accepted_laws.proofs.Tools.{some_inj}

-- an argument is an expression, or a text
pub text_or_expression : (n : Node) → is_argument n ≡ true →
    (is_expression n ≡ true) ⊎ ((position : Position) × (text : List ℕ) × (n ≡ Text position text))
unfolding is_argument is_expression
text_or_expression (Text position text) e = inr (position, text, refl)
text_or_expression (Binary a b c d) e = inl refl
text_or_expression (Unary a b c) e = inl refl
text_or_expression (Cast a b c d) e = inl refl
text_or_expression (Parenthesized a b) e = inl refl
text_or_expression (SimpleName a b) e = inl refl
text_or_expression (FieldAccess a b c) e = inl refl
text_or_expression (Call a b c d) e = inl refl
text_or_expression (Element a b c) e = inl refl
text_or_expression (New a b c d) e = inl refl
text_or_expression (NewArray a b c) e = inl refl
text_or_expression (Number a b c) e = inl refl
text_or_expression (True a) e = inl refl
text_or_expression (False a) e = inl refl
text_or_expression (Null a) e = inl refl
text_or_expression (ThisNode a) e = inl refl
text_or_expression _ e = absurd (true≢false (sym e))

pub mapped : (o : Option (List Ty)) (t : Ty) (ts : List Ty) → option_map (λ (ts : List Ty). t ∷ ts) o ≡ Some ts →
    (us : List Ty) × (o ≡ Some us) × (t ∷ us ≡ ts)
mapped None t ts e = absurd (cc (e))
mapped (Some us) t ts e = (us, refl, some_inj (t ∷ us) ts e)

pub and_true : (a b : Bool) → (a && b) ≡ true → (a ≡ true) × (b ≡ true)
and_true true b e = (refl, e)
and_true false b e = absurd (true≢false (sym e))
