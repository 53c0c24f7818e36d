-- On a way through a body: what an operation takes, and what is pushed in its place.
use Rattle.std.specs.Prelude.{None}
use Rattle.std.proofs.Common.{◌≡◌, ℕ, suc, ◌+◌, List, [], ◌∷◌, ◌++◌, length, refl, sym, ◌∙◌, subst, arith, append_assoc, length-append}
use Rattle.scj_rules.specs.declared.views.Body.{Body}
use Rattle.accepted_laws.specs.Kinds.{Kind, number, truth}
use Rattle.scj_model.specs.declared.operations.Op.{Op}
use Rattle.scj_model.specs.Code.{Code}
use Rattle.scope_flow.specs.Pushers.{Pusher, scope_in, IsPushed, ArePushed}
use Rattle.scope_flow.specs.Needs.{stacked}
use Rattle.scope_flow.specs.Ways.{taken_by, Pushes, Comes, behind, Stood}

-- ---- what an operation takes, and what is pushed in its place

module _ (code : Code) (body : Body) (c : ℕ) (op : Op) (ops : List Op) where
  -- so many pushers are taken, and those of the others are left
  pub record Taken (others : List Kind) (n : ℕ) : Type 0 where
    pub taken : List Pusher
    pub left : List Pusher
    pub came : Comes code body (op ∷ ops) (taken ++ left)
    pub many : length taken ≡ n
    pub are_pushed : ArePushed code.program c left others

  pub none : (s : List Kind) → Stood code body c (op ∷ ops) s → Taken s 0
  none s st = record { taken = []; left = st.pushers; came = st.came; many = refl; are_pushed = st.pushed }

  pub one : (k : Kind) (others : List Kind) (n : ℕ) → Taken (k ∷ others) n → Taken others (suc n)
  one k others n x = go x.left x.are_pushed x.came
    where
      go : (left : List Pusher) → ArePushed code.program c left (k ∷ others) →
          Comes code body (op ∷ ops) (x.taken ++ left) → Taken others (suc n)
      go [] h came = absurd h
      go (q ∷ left) h came =
          record {
            taken = x.taken ++ q ∷ [];
            left = left;
            came = subst (Comes code body (op ∷ ops)) (sym (append_assoc x.taken (q ∷ []) left)) came;
            many =
                (let e = length-append x.taken (q ∷ []) in let m = x.many in omega (arith, e, m));
            are_pushed = h.1;
          }

  pub all : (us others : List Kind) (n : ℕ) → Taken (stacked us others) n → Taken others (length us + n)
  all [] others n x = let e : n ≡ 0 + n = omega arith in subst (Taken others) e x
  all (u ∷ us) others n x =
      let e : suc (length us + n) ≡ suc (length us) + n = omega arith in
      subst (Taken others) e (one u others (length us + n) (all us (u ∷ others) n x))

  pub nothing_left : (others : List Kind) (n : ℕ) → Taken others n → n ≡ taken_by code op → Pushes op [] →
      Stood code body c ops others
  nothing_left others n x e p =
      record {
        pushers = x.left;
        came = behind op ops x.taken x.left [] x.came (x.many ∙ e) p;
        pushed = x.are_pushed;
      }

  pub one_left : (others : List Kind) (n : ℕ) (k : Kind) (q : Pusher) → Taken others n → n ≡ taken_by code op →
      Pushes op (q ∷ []) → IsPushed code.program c q k → Stood code body c ops (k ∷ others)
  one_left others n k q x e p is =
      record {
        pushers = q ∷ x.left;
        came = behind op ops x.taken x.left (q ∷ []) x.came (x.many ∙ e) p;
        pushed = (is, x.are_pushed);
      }

  pub without_scope : (q : Pusher) (k : Kind) → scope_in k ≡ None → IsPushed code.program c q k
  without_scope q k e s is = absurd (cc (e, is))

  pub number_pushed : (q : Pusher) → IsPushed code.program c q number
  unfolding scope_in
  number_pushed q = without_scope q number refl

  pub truth_pushed : (q : Pusher) → IsPushed code.program c q truth
  unfolding scope_in
  truth_pushed q = without_scope q truth refl
