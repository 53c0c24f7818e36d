-- Where what follows is refuted, it may be used that what a class reaches is decided.
use Rattle.std.specs.Prelude.{nat_lt, if◌then◌else◌, Some}
use Rattle.std.proofs.Common.{◌≡◌, ℕ, zero, suc, ◌<◌, ◌≤◌, length, Bool, true, false, ◌==◌, true≢false, refl, sym, ◌∙◌, ap, subst, arith}
use Rattle.std.proofs.lemmas.Bool.Decides.{nat_tests}
use Rattle.scj_rules.proofs.ChainLemmas.{same_number}
use Rattle.scj_rules.specs.declared.views.Body.{Body}
use Rattle.scj_rules.specs.declared.views.Body.TheVariants.{Written, Empty}
use Rattle.scj_model.specs.Code.{Code}
use Rattle.memory_needs.specs.Reach.{IsInBody, MayRun, handler_body, Reaches, begins, goes_on}
use Rattle.memory_needs.proofs.Settled.{no_node, runs_none}
use Rattle.memory_bounds.proofs.Suffices.{IsReach}

-- a test of the numbers below a bound
pub record Decides (P : ℕ → Type 0) (bound : ℕ) (test : ℕ → Bool) : Type 0 where
  pub only : (n : ℕ) → n < bound → test n ≡ true → P n
  pub all : (n : ℕ) → n < bound → P n → test n ≡ true

module _ (P : ℕ → Type 0) (bound : ℕ) (test : ℕ → Bool) (d : Decides P bound test) where
  abbrev with_last : Bool → ℕ → Bool
  with_last v n = if n == bound then v else test n

  extended : (v : Bool) → (v ≡ true → P bound) → (P bound → v ≡ true) → Decides P (suc bound) (with_last v)
  extended v there back = record {
    only = λ n l e. only_at n l (n == bound) refl e;
    all = λ n l x. all_at n l x (n == bound) refl;
  }
    where
      only_at : (n : ℕ) → n < suc bound → (b : Bool) → (n == bound) ≡ b → (if b then v else test n) ≡ true → P n
      only_at n l true t e = subst P (sym (same_number n bound t)) (there e)
      only_at n l false t e = d.only n (grind (arith, nat_tests, l, t)) e

      all_at : (n : ℕ) → n < suc bound → P n → (b : Bool) → (n == bound) ≡ b → (if b then v else test n) ≡ true
      all_at n l x true t = back (subst P (same_number n bound t) x)
      all_at n l x false t = d.all n (grind (arith, nat_tests, l, t)) x

pub decided : (P : ℕ → Type 0) (bound : ℕ) → ((test : ℕ → Bool) → Decides P bound test → ⊥) → ⊥
decided P zero k =
    k (λ n. false)
    (record { only = λ n l e. absurd (omega (arith, l)); all = λ n l x. absurd (omega (arith, l)) })
decided P (suc bound) k =
    decided P bound (λ test d.
    (let refuted : P bound → ⊥ = λ x.
    k (with_last P bound test d true) (extended P bound test d true (λ e. x) (λ y. refl)) in
    k (with_last P bound test d false)
    (extended P bound test d false (λ e. absurd (true≢false (sym e))) (λ x. absurd (refuted x)))))

-- ---- what a class reaches

-- the bodies of the program's nodes that are reached; any other body runs nothing
module _ (code : Code) (class : ℕ) (test : ℕ → Bool)
    (d : Decides (λ n. Reaches code class (Written n)) (length code.program.nodes) test) where
  unfoldable pub reached_by : Body → Bool
  reached_by (Written node) = if nat_lt node (length code.program.nodes) then test node else true
  reached_by Empty = true

  of_node : (node : ℕ) → (node < length code.program.nodes → Reaches code class (Written node)) →
      reached_by (Written node) ≡ true
  unfolding reached_by
  of_node node h = of (nat_lt node (length code.program.nodes)) refl
    where
      of : (b : Bool) → nat_lt node (length code.program.nodes) ≡ b → (if b then test node else true) ≡ true
      of false t = refl
      of true t = (let l : node < length code.program.nodes = grind (arith, nat_tests, t) in d.all node l (h l))

  comes : (node : ℕ) → node < length code.program.nodes → reached_by (Written node) ≡ true →
      Reaches code class (Written node)
  unfolding reached_by
  comes node l e =
      (let t : nat_lt node (length code.program.nodes) ≡ true = grind (arith, nat_tests, l) in
      d.only node l (sym (ap (λ (b : Bool). if b then test node else true) t) ∙ e))

  goes : (body target : Body) → reached_by body ≡ true → MayRun code body target → Reaches code class target
  unfolding IsInBody
  goes (Written node) target e r = of (nat_lt node (length code.program.nodes)) refl
    where
      of : (b : Bool) → nat_lt node (length code.program.nodes) ≡ b → Reaches code class target
      of true t =
          (let l : node < length code.program.nodes = grind (arith, nat_tests, t) in
          goes_on (Written node) target (comes node l e) r)
      of false t =
          (let l : length code.program.nodes ≤ node = grind (arith, nat_tests, t) in
          absurd (runs_none code node target (no_node code.program.nodes node l) r))
  goes Empty target e r = absurd r.is_in

  closed : (body target : Body) → reached_by body ≡ true → MayRun code body target → reached_by target ≡ true
  unfolding reached_by
  closed body (Written node) e r = of_node node (λ l. goes body (Written node) e r)
  closed body Empty e r = refl

  first : (body : Body) → handler_body code class ≡ Some body → reached_by body ≡ true
  unfolding reached_by
  first (Written node) e = of_node node (λ l. begins (Written node) e)
  first Empty e = refl

  pub is_reach : IsReach code class reached_by
  is_reach = record { begins = first; closed = closed; only = comes }
