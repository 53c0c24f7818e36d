-- The nearest members of names after changes, and what is told by these of classes.
use Rattle.std.proofs.Common.{◌≡◌, ℕ, ◌-◌, ◌+◌, ◌<◌, ◌≤◌, ◌==◌, Bool, true, false, cond, List, [], ◌∷◌, ◌++◌, get_or, length, take, Option, None, Some, option_and_then, refl, sym, ap, ◌∙◌, ⊎_elim, arith, if◌then◌else◌}
use Rattle.std.specs.HashMap.{get}
use Rattle.std.specs.List.{prefix_len}
use Rattle.std.specs.List.Sorted.{IsPartitionPoint}
use Rattle.std.proofs.lemmas.Bool.{cases_Bool, le-ltb, lt-ltb}
use Rattle.std.proofs.lemmas.Grind.{common_steps}
use Rattle.std.proofs.lemmas.List.{get_or_push, length_push, take_all, take-append-le}
use Rattle.std.proofs.lemmas.List.Elements.{All-push}
use Rattle.std.proofs.lemmas.List.Folds.{prefix_len-append}
use Rattle.std.proofs.lemmas.List.Sorted.{IsNonDecreasingBy-push}
use Rattle.std.proofs.lemmas.List.Sums.{prefix_len_is, prefix_len-le-length}
use Rattle.std.proofs.lemmas.Option.{slice_get-get_or}
use Rattle.scj_base.specs.Bytes.{is_same}
use Rattle.scj_tree.specs.Forest.{Forest}
use Rattle.scj_rules.specs.Classes.{classes_above, superclasses}
use Rattle.scj_rules.proofs.ChainLemmas.{same_number}
use Rattle.class_rows.specs.declared.members.MemberKind.{MemberKind}
use Rattle.class_rows.specs.declared.nearest.Change.{Change}
use Rattle.class_rows.specs.declared.nearest.NearestMembers.{NearestMembers}
use Rattle.class_rows.specs.Members.{changes_under, if_abstract, is_before, kept_under, latest, nearest_before, nearest_now, rows_of, with_change, AreInOrder, AreNamed, AreNearest, IsNearestAbove, IsSplit}

abbrev no_change : Change
no_change = record { before = 0; nearest = None }

pub found_before : (count : ℕ) (cs : List Change) (n : ℕ) → n ≤ length cs → IsPartitionPoint (λ c. is_before count c
    ≡ true) (λ c. is_before count c ≡ false) cs n → latest (take n cs) ≡ nearest_before count cs
found_before count cs n l h =
    sym (ap (λ (k : ℕ). latest (take k cs)) (prefix_len_is (is_before count) cs n no_change l
    (λ k m. h.0 k no_change (omega arith) m) (λ m. h.1 n no_change (omega arith) m)))

-- where all came before there were so many, the last one counts
now_is : (count : ℕ) (cs : List Change) → AreInOrder count cs → nearest_before count cs ≡ latest cs
now_is count cs o =
    ap (λ (k : ℕ). latest (take k cs)) (prefix_len_is (is_before count) cs (length cs) no_change (omega arith)
    (λ k m. lt-ltb (get_or cs k no_change).before count (o.past k no_change m)) (λ m. absurd (omega (arith, m))))
    ∙ ap latest (take_all (length cs) cs (omega arith))

latest_pushed : (cs : List Change) (c : Change) → latest (cs ++ c ∷ []) ≡ c.nearest
latest_pushed cs c =
    let more = length_push cs c in
    ap (λ (o : Option Change). option_and_then (λ (x : Change). x.nearest) o)
    (slice_get-get_or (cs ++ c ∷ []) (length (cs ++ c ∷ []) - 1) c (omega (arith, more))
    ∙ ap (λ (x : Change). Some x) (get_or_push cs c c (length (cs ++ c ∷ []) - 1) (omega (arith, more))))

pub latest_now : (cs : List Change) (c : Change) (t : Bool) →
    latest (with_change t c cs) ≡ (if t then c.nearest else latest cs)
latest_now cs c true = latest_pushed cs c
latest_now cs c false = refl

-- a change that comes later counts for none of those before
before_stays : (count : ℕ) (cs : List Change) (c : Change) (t : Bool) → count ≤ c.before →
    nearest_before count (with_change t c cs) ≡ nearest_before count cs
before_stays count cs c false h = refl
before_stays count cs c true h =
    let out : is_before count c ≡ false = le-ltb c.before count h in
    let parts = prefix_len-append (is_before count) cs (c ∷ []) in
    let same : prefix_len (is_before count) (cs ++ c ∷ []) ≡ prefix_len (is_before count) cs =
    grind (arith, common_steps, out, parts) in
    ap (λ (k : ℕ). latest (take k (cs ++ c ∷ []))) same
    ∙ ap latest (take-append-le _ cs (c ∷ []) (prefix_len-le-length (is_before count) cs))

order_stays : (count : ℕ) (cs : List Change) (c : Change) (t : Bool) → c.before ≡ count → AreInOrder count cs →
    AreInOrder (count + 1) (with_change t c cs)
order_stays count cs c false e o = record { rising = o.rising; past = λ k d l. omega (arith, o.past k d l) }
order_stays count cs c true e o =
    record {
      rising = IsNonDecreasingBy-push (λ (x : Change). x.before) cs c o.rising
          (λ d l. omega (arith, e, o.past (length cs - 1) d (omega (arith, l))));
      past = All-push (λ (x : Change). x.before < count + 1) cs c (λ k d l. omega (arith, o.past k d l))
          (omega (arith, e));
    }

module _ (kind : MemberKind) (forest : Forest) (was now : NearestMembers) where
  -- a change that is noted under a name
  pub noted : (name : List ℕ) (c : Change) → c.before ≡ was.count → now.count ≡ was.count + 1 → now.reported ≡ was.reported →
      ((other : List ℕ) → changes_under now.changes other ≡ with_change (is_same name other) c
      (changes_under was.changes other)) → ((other : List ℕ) → kept_under now.abstracts other
      ≡ (if is_same name other then if_abstract forest.nodes c.nearest else kept_under was.abstracts other)) →
      AreNearest kind forest was → AreNearest kind forest now
  noted name c e count reported put keep a =
      record {
        in_order = λ other. rw (put other, count) (order_stays was.count _ c (is_same name other) e (a.in_order other));
        reported = λ class n h. let k = a.reported class n (rw reported at h) in (
          omega (arith, k.0, count),
          λ other. rw (put other)
              (rw (before_stays n (changes_under was.changes other) c (is_same name other) (omega (arith, k.0, e)))
              (k.1 other)),
        );
        abstracts = λ other. rw (put other, latest_now (changes_under was.changes other) c (is_same name other))
            (grind (arith, common_steps, keep other, a.abstracts other));
      }

  -- how many changes there were, which is told of a class
  pub reported_of : (class : ℕ) (path : List ℕ) → now.changes ≡ was.changes → now.count ≡ was.count →
      now.abstracts ≡ was.abstracts → ((other : ℕ) →
      get ◌==◌ now.reported other ≡ cond (class == other) (Some was.count) (get ◌==◌ was.reported other)) →
      superclasses (rows_of forest) class ≡ class ∷ path → classes_above (rows_of forest) class ≡ path →
      IsSplit (superclasses (rows_of forest) class) → AreNamed kind forest was path → AreNamed kind forest now path
  reported_of class path changes count abstracts put chain behind split a =
      let here : (name : List ℕ) → IsNearestAbove kind forest class name (nearest_now was name) =
      λ name. record { chain = rw behind chain; split = split; nearest = rw behind (a.nearest name) } in
      record {
        reported = record {
          in_order = λ name. rw (changes, count) (a.reported.in_order name);
          reported = λ other n h. ⊎_elim
              (λ (s : (class == other) ≡ true).
              let e : n ≡ was.count = grind (arith, common_steps, put other, s, h) in (
                omega (arith, e, count),
                λ name. rw (changes, e, now_is was.count _ (a.reported.in_order name))
                    (rw (← same_number class other s) (here name)),
              ))
              (λ (s : (class == other) ≡ false).
              let k = a.reported.reported other n (grind (arith, common_steps, put other, s, h)) in
              (omega (arith, k.0, count), λ name. rw changes (k.1 name)))
              (cases_Bool (class == other));
          abstracts = λ name. rw (changes, abstracts) (a.reported.abstracts name);
        };
        nearest = λ name. rw changes (a.nearest name);
      }
