-- Nodes and parts of nodes whose lexemes a text may hold.
use Rattle.std.proofs.Common.{◌≡◌, ℕ, ◌≤◌, nat_lt, true, List, [], ◌∷◌, ◌++◌, Option, Some, None, slice_get, refl, sym, ap, subst, ◌∙◌}
use Rattle.std.proofs.lemmas.Bool.{ltb-true}
use Rattle.scj_base.specs.declared.positions.Position.{Position}
use Rattle.scj_base.specs.Lexeme.{AllOf, is_text_byte, is_name}
use Rattle.scj_tree.specs.declared.nodes.Node.{Node}
use Rattle.scj_tree.specs.declared.nodes.Node.TheVariants.{Text}
use Rattle.scj_tree.specs.Forest.{ChildrenFirst}
use Rattle.scj_show.specs.declared.parts.Part.{Part}
use Rattle.scj_show.specs.declared.parts.Part.TheVariants.{Whole, Bare, Named, Quoted, Word, Sign, Digits}
use Rattle.scj_show.specs.Parts.{parts_of, bare_parts, maybe, each, each_behind_comma, listed, in_parentheses, implemented, parameters_or_none}
use Rattle.scj_show.specs.Symbols.{Symbol, own_symbols, symbols_of_part, symbols_of_parts, written, symbols_of}
use Rattle.scj_show.specs.Placed.{IsLexeme, AreLexemes}
use Rattle.scj_show.proofs.Again.{whole, whole_at}
use Rattle.scj_show.proofs.AssignmentsAgain.{bare, bare_at}

-- a text may hold the lexemes of the node id among W: whole, and bare
pub record IsLexed (W : List Node) (id : ℕ) : Type 0 where
  pub are : AreLexemes (whole W id)

pub record IsBareLexed (W : List Node) (id : ℕ) : Type 0 where
  pub are : AreLexemes (bare W id)

pub data AllLexed (W : List Node) : List ℕ → Type 0 where
  none_lexed : AllLexed W []
  one_lexed : {id : ℕ} {ids : List ℕ} → IsLexed W id → AllLexed W ids → AllLexed W (id ∷ ids)

pub data MaybeLexed (W : List Node) : Option ℕ → Type 0 where
  not_lexed : MaybeLexed W None
  is_lexed : {id : ℕ} → IsLexed W id → MaybeLexed W (Some id)

-- a text may hold the lexemes of parts
pub data PartsLexed (W : List Node) : List Part → Type 0 where
  last : PartsLexed W []
  whole_part : {id : ℕ} {ps : List Part} → IsLexed W id → PartsLexed W ps → PartsLexed W (Whole id ∷ ps)
  bare_part : {id : ℕ} {ps : List Part} → IsBareLexed W id → PartsLexed W ps → PartsLexed W (Bare id ∷ ps)
  name_part : {w : List ℕ} {ps : List Part} → is_name w ≡ true → PartsLexed W ps → PartsLexed W (Named w ∷ ps)
  text_part : {w : List ℕ} {ps : List Part} → AllOf is_text_byte w → PartsLexed W ps → PartsLexed W (Quoted w ∷ ps)
  word_part : {n : ℕ} {ps : List Part} → nat_lt n 53 ≡ true → PartsLexed W ps → PartsLexed W (Word n ∷ ps)
  sign_part : {n : ℕ} {ps : List Part} → nat_lt n 50 ≡ true → PartsLexed W ps → PartsLexed W (Sign n ∷ ps)
  number_part : {n : ℕ} {ps : List Part} → n ≤ 2147483648 → PartsLexed W ps → PartsLexed W (Digits n ∷ ps)

-- ---- from the parts of a node to its lexemes

lexemes-append : (xs ys : List Symbol) → AreLexemes xs → AreLexemes ys → AreLexemes (xs ++ ys)
unfolding AreLexemes
lexemes-append [] ys h k = k
lexemes-append (x ∷ xs) ys h k = (h.0, lexemes-append xs ys h.1 k)

parts_are : {W : List Node} {ps : List Part} → PartsLexed W ps → AreLexemes (symbols_of_parts (written W) ps)
unfolding AreLexemes IsLexeme symbols_of_parts symbols_of_part
parts_are last = tt
parts_are (whole_part h more) = lexemes-append _ _ h.are (parts_are more)
parts_are (bare_part h more) = lexemes-append _ _ h.are (parts_are more)
parts_are (name_part h more) = (h, parts_are more)
parts_are (text_part h more) = (h, parts_are more)
parts_are (word_part h more) = (ltb-true _ _ h, parts_are more)
parts_are (sign_part h more) = (ltb-true _ _ h, parts_are more)
parts_are (number_part h more) = (h, parts_are more)

-- a node without a lexeme of its own
pub node_lexed : {W : List Node} {id : ℕ} {node : Node} → ChildrenFirst 0 W → slice_get W id ≡ Some node →
    own_symbols node ≡ [] → PartsLexed W (parts_of node) → IsLexed W id
node_lexed {W} {id} {node} first at own parts =
    record {
      are = subst AreLexemes
          (sym
          (whole_at W id node first at
          ∙ ap (λ (ss : List Symbol). ss ++ symbols_of_parts (written W) (parts_of node)) own))
          (parts_are parts);
    }

pub bare_lexed : {W : List Node} {id : ℕ} {node : Node} → ChildrenFirst 0 W → slice_get W id ≡ Some node →
    PartsLexed W (bare_parts node) → IsBareLexed W id
bare_lexed {W} {id} {node} first at parts =
    record { are = subst AreLexemes (sym (bare_at W id node first at)) (parts_are parts) }

pub text_lexed : {W : List Node} {id : ℕ} {p : Position} {w : List ℕ} → ChildrenFirst 0 W →
    slice_get W id ≡ Some (Text p w) → AllOf is_text_byte w → IsLexed W id
unfolding AreLexemes IsLexeme own_symbols symbols_of_parts parts_of
text_lexed {W} {id} {p} {w} first at h =
    record { are = subst AreLexemes (sym (whole_at W id (Text p w) first at)) (h, tt) }

-- ---- rows of parts

pub and_then : {W : List Node} {ps qs : List Part} → PartsLexed W ps → PartsLexed W qs → PartsLexed W (ps ++ qs)
and_then last more = more
and_then (whole_part h ps) more = whole_part h (and_then ps more)
and_then (bare_part h ps) more = bare_part h (and_then ps more)
and_then (name_part h ps) more = name_part h (and_then ps more)
and_then (text_part h ps) more = text_part h (and_then ps more)
and_then (word_part h ps) more = word_part h (and_then ps more)
and_then (sign_part h ps) more = sign_part h (and_then ps more)
and_then (number_part h ps) more = number_part h (and_then ps more)

pub all-put : {W : List Node} {ids : List ℕ} {id : ℕ} → AllLexed W ids → IsLexed W id → AllLexed W (ids ++ id ∷ [])
all-put none_lexed h = one_lexed h none_lexed
all-put (one_lexed k more) h = one_lexed k (all-put more h)

pub maybe_lexed : {W : List Node} {id : Option ℕ} → MaybeLexed W id → PartsLexed W (maybe id)
unfolding maybe
maybe_lexed not_lexed = last
maybe_lexed (is_lexed h) = whole_part h last

pub each_lexed : {W : List Node} {ids : List ℕ} → AllLexed W ids → PartsLexed W (each ids)
unfolding each
each_lexed none_lexed = last
each_lexed (one_lexed h more) = whole_part h (each_lexed more)

commas_lexed : {W : List Node} {ids : List ℕ} → AllLexed W ids → PartsLexed W (each_behind_comma ids)
unfolding each_behind_comma
commas_lexed none_lexed = last
commas_lexed (one_lexed h more) = sign_part refl (whole_part h (commas_lexed more))

listed_lexed : {W : List Node} {ids : List ℕ} → AllLexed W ids → PartsLexed W (listed ids)
unfolding listed
listed_lexed none_lexed = last
listed_lexed (one_lexed h more) = whole_part h (commas_lexed more)

pub in_parentheses_lexed : {W : List Node} {ids : List ℕ} → AllLexed W ids → PartsLexed W (in_parentheses ids)
unfolding in_parentheses
in_parentheses_lexed h = sign_part refl (and_then (listed_lexed h) (sign_part refl last))

pub implemented_lexed : {W : List Node} {ids : List ℕ} → AllLexed W ids → PartsLexed W (implemented ids)
unfolding implemented
implemented_lexed none_lexed = last
implemented_lexed (one_lexed h more) = word_part refl (whole_part h (commas_lexed more))

pub parameters_or_none_lexed : {W : List Node} {id : Option ℕ} → MaybeLexed W id → PartsLexed W (parameters_or_none id)
unfolding parameters_or_none
parameters_or_none_lexed not_lexed = sign_part refl (sign_part refl last)
parameters_or_none_lexed (is_lexed h) = whole_part h last

pub classes_are : {W : List Node} {ids : List ℕ} → AllLexed W ids → AreLexemes (symbols_of W ids)
unfolding symbols_of
classes_are h = parts_are (each_lexed h)
