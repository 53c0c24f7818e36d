-- Methods at nodes, and small steps on tests and names.
use Rattle.std.proofs.Common.{◌≡◌, ℕ, List, [], ◌∷◌, flat_map, find, refl, sym, ap, ◌∙◌, Option, Some, None, Bool, true, false, not, ◌&&◌, true≢false, slice_get, ◌==◌, option_and_then}
use Rattle.scj_base.specs.Bytes.{is_same}
use Rattle.scj_base.specs.declared.findings.Found.{Found}
use Rattle.scj_tree.specs.declared.nodes.Node.{Node}
use Rattle.scj_tree.specs.declared.nodes.Node.TheVariants.{Method}
use Rattle.scj_rules.specs.Views.{DeclaredMethod, method_of, method_at}
use Rattle.scj_rules.proofs.ChainLemmas.{same_number}
use Rattle.accepted_laws.proofs.Breaks.{both_empty}
use Rattle.accepted_laws.proofs.Fields.{In, here, there}
use Rattle.accepted_laws.proofs.Tools.{some_inj}

pub flat_none : {A : Type 0} (f : A → List Found) (x : A) (xs : List A) → flat_map f xs ≡ [] → In x xs → f x ≡ []
flat_none f x [] e h = elim h [ ]
flat_none f x (y ∷ xs) e here = (both_empty (f x) (flat_map f xs) e).0
flat_none f x (y ∷ xs) e (there h) = flat_none f x xs (both_empty (f y) (flat_map f xs) e).1 h

pub find_passes : {A : Type 0} (test : A → Bool) (x : A) (xs : List A) → find test xs ≡ Some x → test x ≡ true
find_passes test x [] e = absurd (cc (e))
find_passes test x (y ∷ xs) e = go (test y) refl e (find_passes test x xs)
  where
    go : (b : Bool) → test y ≡ b → find test (y ∷ xs) ≡ Some x → (find test xs ≡ Some x → test x ≡ true) → test x ≡ true
    go true t e ih = (let q : y ≡ x = some_inj y x (rw t at e) in ap test (sym q) ∙ t)
    go false t e ih = ih (rw t at e)

pub and_true : (a b : Bool) → (a && b) ≡ true → (a ≡ true) × (b ≡ true)
and_true true b e = (refl, e)
and_true false b e = absurd (true≢false (sym e))

pub three : (a b c : Bool) → (a && b && c) ≡ true → (a ≡ true) × (b ≡ true) × (c ≡ true)
three true true c e = (refl, refl, e)
three true false c e = absurd (true≢false (sym e))
three false b c e = absurd (true≢false (sym e))

pub not_false : (t : Bool) → not t ≡ false → t ≡ true
not_false true e = refl
not_false false e = absurd (true≢false e)

-- two rows of bytes that pass as the same are the same
pub same_bytes : (a b : List ℕ) → is_same a b ≡ true → a ≡ b
same_bytes [] [] e = refl
same_bytes [] (y ∷ b) e = absurd (true≢false (sym e))
same_bytes (x ∷ a) [] e = absurd (true≢false (sym e))
same_bytes (x ∷ a) (y ∷ b) e =
    let parts = and_true (x == y) (is_same a b) e in
    ap (λ z. z ∷ a) (same_number x y parts.0) ∙ ap (λ zs. y ∷ zs) (same_bytes a b parts.1)

-- a method at a node
pub record IsMethodNode (nodes : List Node) (id : ℕ) (m : DeclaredMethod) : Type 0 where
  pub node : Node
  pub is_there : slice_get nodes id ≡ Some node
  pub is : method_of nodes id node ≡ Some m
  pub number : m.declared.node ≡ id
  pub not_builtin : m.builtin ≡ None

method_made : (nodes : List Node) (id : ℕ) (node : Node) (m : DeclaredMethod) → slice_get nodes id ≡ Some node → method_of nodes id node ≡ Some m → IsMethodNode nodes id m
unfolding method_of
method_made nodes id (Method position name flags result_type parameters body) m stands e =
    record { node = Method position name flags result_type parameters body; is_there = stands; is = e; number = sym (ap (λ (m : DeclaredMethod). m.declared.node) (some_inj _ m e)); not_builtin = sym (ap (λ (m : DeclaredMethod). m.builtin) (some_inj _ m e)) }
method_made nodes id _ m stands e = absurd (cc (e))

pub method_node : (nodes : List Node) (id : ℕ) (m : DeclaredMethod) → method_at nodes id ≡ Some m → IsMethodNode nodes id m
method_node nodes id m e = go (slice_get nodes id) refl e
  where
    go : (o : Option Node) → slice_get nodes id ≡ o → option_and_then (method_of nodes id) o ≡ Some m → IsMethodNode nodes id m
    go None stands e = absurd (cc (e))
    go (Some node) stands e = method_made nodes id node m stands e
