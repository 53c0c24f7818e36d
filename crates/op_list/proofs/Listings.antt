-- Whole lists.
use Rattle.std.proofs.Common.{◌≡◌, ℕ, zero, suc, ◌<◌, ◌≤◌, Bool, false, List, [], ◌∷◌, ◌++◌, length, Option, Some, None, slice_get, IfSome, IfNone, option_and_then, refl, sym, ap, ◌∙◌, arith, length-append, append-nil, subst, ⊎_elim}
use Rattle.std.proofs.lemmas.Bool.{cases_lt}
use Rattle.std.proofs.lemmas.Option.{slice_get_within}
use Rattle.scj_tree.specs.declared.nodes.Node.{Node}
use Rattle.scj_rules.specs.declared.views.Body.{Body}
use Rattle.scj_rules.specs.declared.views.Body.TheVariants.{Written, Empty}
use Rattle.accepted_laws.specs.Sorts.{Of}
use Rattle.scj_model.specs.declared.operations.Op.{Op}
use Rattle.scj_model.specs.declared.operations.Op.TheVariants.{Leave as LEAVE}
use Rattle.scj_rules.specs.Contexts.{declarations_of}
use Rattle.scj_model.specs.Code.{Code, code_of}
use Rattle.scj_model.specs.Effects.{locals_of}
use Rattle.scj_model.specs.Ops.{ops_of, body_ops}
use Rattle.op_list.specs.declared.rows.Row.{Row}
use Rattle.op_list.specs.declared.bodies.BodyRow.{BodyRow}
use Rattle.op_list.specs.Rows.{rest_at, GoesOn, IsLonger, IsLaid}
use Rattle.op_list.specs.Listed.{is_body, IsBodyAmong, names_body, is_monitored, IsBodyRow, IsNodeRow, IsListed, Listing, IsListing}
use Rattle.op_list.proofs.Rests.{rest_zero}
use Rattle.op_list.proofs.Layouts.{goes_on_more, longer_length, longer_rest, longer_get}

-- rows that were laid out behind the first one, which is never read
pub first_rows : (code : Code) (none before rows : List Row) (first : Row) (ops : List Op) (next index : ℕ) →
    none ≡ [] → before ≡ none ++ first ∷ [] → IsLaid code before rows ops next index → IsListed code rows []
first_rows code none before rows first ops next index e put l =
    let one : length before ≡ 1 = ap length put ∙ ap (λ (rs : List Row). length (rs ++ first ∷ [])) e in
    let long = longer_length code before rows l.longer in
    record {
      some = omega (arith, long, one);
      good = record { each = λ index row h e. l.longer.good index row (omega (arith, h, one)) e };
      begins = λ id listed e. absurd (cc (e));
    }

-- operations that were laid out in front of the end
pub rest_laid : (code : Code) (before after : List Row) (ops : List Op) (index : ℕ) →
    IsLaid code before after ops 0 index → rest_at after index ≡ ops
rest_laid code before after ops index l =
    l.rest ∙ ap (λ (os : List Op). ops ++ os) (rest_zero before) ∙ append-nil ops

pub empty_row : (code : Code) (before after : List Row) (row : BodyRow) →
    IsLaid code before after (LEAVE ∷ []) 0 row.start → row.locals ≡ 0 → row.is_synchronized ≡ false →
    IsBodyRow code after Empty row
unfolding body_ops is_monitored
empty_row code before after row l locals monitor =
    record { rest = rest_laid code before after (LEAVE ∷ []) row.start l; locals = locals; monitor = monitor }

-- a body stays what it is when rows are put behind
pub row_stays : (code : Code) (before after : List Row) (body : Body) (row : BodyRow) → IsLonger code before after →
    row.start < length before → IsBodyRow code before body row → IsBodyRow code after body row
row_stays code before after body row g inside b =
    record {
      rest = longer_rest code before after g row.start inside ∙ b.rest;
      locals = b.locals;
      monitor = b.monitor;
    }

-- ---- what is listed of a node

pub no_body : (code : Code) (rows : List Row) (id : ℕ) → names_body code.program.nodes id ≡ false →
    IsNodeRow code rows id None
no_body code rows id e =
    record { some = λ row s. absurd (cc (s)); body = λ row s. absurd (cc (s)); none = λ s. e }

pub body_laid : (code : Code) (before after : List Row) (id : ℕ) (row : BodyRow) →
    IsLaid code before after (ops_of code id) 0 row.start → row.locals ≡ locals_of code (Written id) →
    row.is_synchronized ≡ is_monitored code (Written id) → IsNodeRow code after id (Some row)
unfolding body_ops
body_laid code before after id row l locals monitor =
    let laid : IsBodyRow code after (Written id) row =
    record { rest = rest_laid code before after (ops_of code id) row.start l; locals = locals; monitor = monitor } in
    record {
      some = λ other s. let is : row ≡ other = cc in subst (λ (r : BodyRow). r.start < length after) is l.inside;
      body = λ other s. let is : row ≡ other = cc in subst (IsBodyRow code after (Written id)) is laid;
      none = λ s. absurd (cc (s));
    }

node_stays : (code : Code) (before after : List Row) (id : ℕ) (listed : Option BodyRow) → IsLonger code before after →
    IsNodeRow code before id listed → IsNodeRow code after id listed
node_stays code before after id listed g n =
    let long = longer_length code before after g in
    record {
      some = λ row s. omega (arith, n.some row s, long);
      body = λ row s. row_stays code before after (Written id) row g (n.some row s) (n.body row s);
      none = n.none;
    }

-- one node more
pub one_more : (code : Code) (before after : List Row) (bodies : List (Option BodyRow)) (listed : Option BodyRow) →
    IsListed code before bodies → IsLonger code before after → IsNodeRow code after (length bodies) listed →
    IsListed code after (bodies ++ listed ∷ [])
one_more code before after bodies listed l g n =
    let long = longer_length code before after g in
    record {
      some = omega (arith, l.some, long);
      good = record {
        each = λ index row h e. ⊎_elim
            (λ (inside : index < length before).
            let there : slice_get before index ≡ Some row = sym (longer_get code before after g index inside) ∙ e in
            subst (λ rows. GoesOn code rows index row) (sym g.grown.1)
            (goes_on_more code before g.grown.0 index row inside (l.good.each index row h there)))
            (λ (outside : length before ≤ index). g.good index row outside e)
            (cases_lt index (length before));
      };
      begins = λ id other e. ⊎_elim
          (λ (inside : id < length bodies).
          node_stays code before after id other g
          (l.begins id other (sym (front bodies (listed ∷ []) id inside) ∙ e)))
          (λ (outside : length bodies ≤ id).
          let within = slice_get_within (bodies ++ listed ∷ []) id other e in
          let len = length-append bodies (listed ∷ []) in
          let last : length bodies ≡ id = omega (arith, outside, within, len) in
          let same : Some listed ≡ Some other =
          sym (here bodies listed) ∙ ap (slice_get (bodies ++ listed ∷ [])) last ∙ e in
          let is : listed ≡ other = cc in
          subst (λ (k : ℕ). IsNodeRow code after k other) last
          (subst (λ (o : Option BodyRow). IsNodeRow code after (length bodies) o) is n))
          (cases_lt id (length bodies));
    }
  where
    front : (xs ys : List (Option BodyRow)) (k : ℕ) → k < length xs → slice_get (xs ++ ys) k ≡ slice_get xs k
    front [] ys k h = absurd (omega (arith, h))
    front (x ∷ xs) ys zero h = refl
    front (x ∷ xs) ys (suc k) h = front xs ys k (omega (arith, h))

    here : (xs : List (Option BodyRow)) (y : Option BodyRow) → slice_get (xs ++ y ∷ []) (length xs) ≡ Some y
    here [] y = refl
    here (x ∷ xs) y = here xs y

-- ---- what is found of a body

not_among : (nodes : List Node) (id : ℕ) → names_body nodes id ≡ false → (IsBodyAmong nodes (Written id) → ⊥)
unfolding names_body IsBodyAmong
not_among nodes id e =
    λ (o : Of is_body nodes id).
    let is = ap (λ (n : Option Node). elim n as (λ _. Bool) [ None ↦ false | Some node ↦ is_body node ]) o.is_there in
    absurd (let passes = o.passes in cc (e, is, passes))

none_among : (nodes : List Node) (id : ℕ) → slice_get nodes id ≡ None → (IsBodyAmong nodes (Written id) → ⊥)
unfolding IsBodyAmong
none_among nodes id e = λ (o : Of is_body nodes id). absurd (let there = o.is_there in cc (e, there))

past : {A B : Type 0} (xs : List A) (ys : List B) (k : ℕ) → length xs ≡ length ys → slice_get xs k ≡ None →
    slice_get ys k ≡ None
past [] [] k l e = refl
past [] (y ∷ ys) k l e = absurd (omega (arith, l))
past (x ∷ xs) [] k l e = refl
past (x ∷ xs) (y ∷ ys) zero l e = absurd (cc (e))
past (x ∷ xs) (y ∷ ys) (suc k) l e = past xs ys k (omega (arith, l)) e

pub record Finds (listing : Listing) (body : Body) (found : Option BodyRow) : Type 0 where
  pub some : IfSome found (λ (row : BodyRow). IsBodyRow (code_of listing.program) listing.rows body row)
  pub none : IfNone found (IsBodyAmong listing.program.nodes body → ⊥)

-- by what is listed at the place of the node
finds_by : (listing : Listing) → IsListing listing → (id : ℕ) (at : Option (Option BodyRow)) →
    slice_get listing.bodies id ≡ at → Finds listing (Written id) (option_and_then (λ (listed : Option BodyRow). listed) at)
unfolding code_of declarations_of
finds_by listing l id None e =
    record {
      some = tt;
      none = none_among listing.program.nodes id (past listing.bodies listing.program.nodes id l.all e);
    }
finds_by listing l id (Some None) e =
    let n = l.listed.begins id None e in
    record { some = tt; none = not_among listing.program.nodes id (n.none refl) }
finds_by listing l id (Some (Some row)) e =
    let n = l.listed.begins id (Some row) e in record { some = n.body row refl; none = tt }

pub finds_written : (listing : Listing) → IsListing listing → (id : ℕ) (bodies : List (Option BodyRow)) →
    bodies ≡ listing.bodies → (found : Option BodyRow) →
    found ≡ option_and_then (λ (listed : Option BodyRow). listed) (slice_get bodies id) →
    Finds listing (Written id) found
finds_written listing l id bodies same found e =
    subst (Finds listing (Written id))
    (sym (e ∙ ap (λ (bs : List (Option BodyRow)). option_and_then (λ (listed : Option BodyRow). listed) (slice_get bs id)) same))
    (finds_by listing l id (slice_get listing.bodies id) refl)
