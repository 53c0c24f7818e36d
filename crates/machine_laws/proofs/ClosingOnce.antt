-- A row of lexemes is refused at one place at most, and no file is refused.
use Rattle.std.proofs.Common.{ap, append_assoc, subst, sym, ◌∙◌}
use Rattle.std.specs.Prelude.{List, [], ◌++◌, ◌∷◌, ◌≡◌, ℕ}
use Rattle.scj_base.specs.declared.positions.Position.{Position}
use Rattle.scj_tree.specs.Grammar.{BeginsFile, RefusedAt, Tree}
use Rattle.scj_tree.specs.Lexemes.{Lexeme, position_of_lexeme}
use Rattle.scj_tree.specs.declared.nodes.Node.{Node}

-- what begins a file begins with what begins one
begins_shorter : (N : List Node) (i o : List Lexeme) → BeginsFile N (i ++ o) → BeginsFile N i
begins_shorter N i o b =
    record {
      rest = o ++ b.rest;
      nodes = b.nodes;
      classes = b.classes;
      tree = subst (λ j. Tree N j b.nodes b.classes)
          (append_assoc i o b.rest) b.tree;
    }

one_more : (i : List Lexeme) (t : Lexeme) (o : List Lexeme) → (i ++ t ∷ []) ++ o ≡ i ++ t ∷ o
one_more i t o = append_assoc i (t ∷ []) o

pub tree_not_refused : (N N1 : List Node) (i : List Lexeme) (ids : List ℕ) (p : Position) → Tree N i N1 ids →
    RefusedAt N i p → Prim.⊥
tree_not_refused N N1 i ids p d r =
    r.ends
    (record {
      rest = r.behind;
      nodes = N1;
      classes = ids;
      tree = subst (λ j. Tree N j N1 ids)
          (r.whole ∙ sym (one_more r.before r.refused r.behind)) d;
    })

-- two ways to part a row at a lexeme
data Parted (a : List Lexeme) (x : Lexeme) (b : List Lexeme) (y : Lexeme) : Type 0 where
  alike : x ≡ y → Parted a x b y
  earlier : (m : List Lexeme) → b ≡ (a ++ x ∷ []) ++ m → Parted a x b y
  later : (m : List Lexeme) → a ≡ (b ++ y ∷ []) ++ m → Parted a x b y

parted_on : (t u : Lexeme) (a : List Lexeme) (x : Lexeme) (b : List Lexeme) (y : Lexeme) → t ≡ u → Parted a x b y →
    Parted (t ∷ a) x (u ∷ b) y
parted_on t u a x b y e (alike h) = alike h
parted_on t u a x b y e (earlier m h) = earlier m cc
parted_on t u a x b y e (later m h) = later m cc

parted : (a : List Lexeme) (x : Lexeme) (c b : List Lexeme) (y : Lexeme) (d : List Lexeme) → a ++ x ∷ c ≡ b ++ y ∷ d →
    Parted a x b y
parted [] x c [] y d e = alike cc
parted [] x c (u ∷ b) y d e = earlier b cc
parted (t ∷ a) x c [] y d e = later a cc
parted (t ∷ a) x c (u ∷ b) y d e = parted_on t u a x b y (cc) (parted a x c b y d (cc))

agreed : (N : List Node) (a : List Lexeme) (x : Lexeme) (b : List Lexeme) (y : Lexeme) → BeginsFile N a →
    BeginsFile N b → (BeginsFile N (a ++ x ∷ []) → Prim.⊥) → (BeginsFile N (b ++ y ∷ []) → Prim.⊥) → Parted a x b y →
    x ≡ y
agreed N a x b y f g h k (alike e) = e
agreed N a x b y f g h k (earlier m e) = absurd (h (begins_shorter N (a ++ x ∷ []) m (subst (BeginsFile N) e g)))
agreed N a x b y f g h k (later m e) = absurd (k (begins_shorter N (b ++ y ∷ []) m (subst (BeginsFile N) e f)))

pub one_place : (N : List Node) (i : List Lexeme) (p q : Position) → RefusedAt N i p → RefusedAt N i q → p ≡ q
one_place N i p q r s =
    let e = agreed N r.before r.refused s.before s.refused r.begins s.begins r.ends s.ends
    (parted r.before r.refused r.behind s.before s.refused s.behind (sym r.whole ∙ s.whole)) in
    sym r.place ∙ (ap position_of_lexeme e ∙ s.place)
