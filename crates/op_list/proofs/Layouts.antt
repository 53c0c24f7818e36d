-- Laying out: nothing, one part in front of another, one row, a row that chooses, and a loop.
use Rattle.std.proofs.Common.{◌≡◌, ℕ, zero, suc, ◌<◌, ◌≤◌, Bool, true, false, List, [], ◌∷◌, ◌++◌, length, Some, None, slice_get, refl, sym, ap, ◌∙◌, arith, length-append, append_assoc, append-nil, subst, ⊎_elim}
use Rattle.std.proofs.lemmas.Bool.{cases_lt}
use Rattle.std.proofs.lemmas.Option.{slice_get_within}
use Rattle.scj_model.specs.declared.operations.Op.{Op}
use Rattle.scj_model.specs.Code.{Code}
use Rattle.scj_model.specs.Ops.{put_in_front}
use Rattle.op_list.specs.Instructions.{instruction_of}
use Rattle.op_list.specs.declared.rows.Row.{Row}
use Rattle.op_list.specs.Rows.{rest_at, row_of, target, GoesOn, IsLonger, IsLaid}
use Rattle.op_list.proofs.Rests.{get_front, get_here, rest_front, rest_is, rest_patched, head_of}

-- a row that goes on well does so when more rows are put behind
pub goes_on_more : (code : Code) (xs ys : List Row) (index : ℕ) (row : Row) → index < length xs →
    GoesOn code xs index row → GoesOn code (xs ++ ys) index row
unfolding target
goes_on_more code xs ys index row h g =
    record {
      asked = g.asked;
      down = g.down;
      if_true = rw length-append (omega (arith, g.if_true));
      if_false = rw length-append (omega (arith, g.if_false));
      branch = λ condition front e.
          let t : target row condition < length xs = elim condition as (λ c. target row c < length xs) [ true ↦ g.if_true | false ↦ g.if_false ] in
          rest_front xs ys (target row condition) t ∙ g.branch condition front e
          ∙ ap (λ (os : List Op). front ++ os) (sym (rest_front xs ys row.next (omega (arith, h, g.down))));
    }

pub longer_nothing : (code : Code) (rows : List Row) → IsLonger code rows rows
longer_nothing code rows =
    record {
      grown = ([], sym (append-nil rows));
      good = λ index row h e. absurd (omega (arith, h, slice_get_within rows index row e));
    }

pub longer_length : (code : Code) (before after : List Row) → IsLonger code before after → length before ≤ length after
longer_length code before after g =
    let e = ap length g.grown.1 in let l = length-append before g.grown.0 in omega (arith, e, l)

pub longer_rest : (code : Code) (before after : List Row) → IsLonger code before after → (p : ℕ) → p < length before →
    rest_at after p ≡ rest_at before p
longer_rest code before after g p h =
    ap (λ rows. rest_at rows p) g.grown.1 ∙ rest_front before g.grown.0 p h

pub longer_get : (code : Code) (before after : List Row) → IsLonger code before after → (p : ℕ) → p < length before →
    slice_get after p ≡ slice_get before p
longer_get code before after g p h =
    ap (λ rows. slice_get rows p) g.grown.1 ∙ get_front before g.grown.0 p h

pub longer_still : (code : Code) (before middle after : List Row) → IsLonger code before middle →
    IsLonger code middle after → IsLonger code before after
longer_still code before middle after g h =
    record {
      grown = (
        g.grown.0 ++ h.grown.0,
        h.grown.1 ∙ ap (λ rows. rows ++ h.grown.0) g.grown.1 ∙ append_assoc before g.grown.0 h.grown.0,
      );
      good = λ index row l e. ⊎_elim
          (λ (inside : index < length middle).
          let there : slice_get middle index ≡ Some row = sym (longer_get code middle after h index inside) ∙ e in
          subst (λ rows. GoesOn code rows index row) (sym h.grown.1)
          (goes_on_more code middle h.grown.0 index row inside (g.good index row l there)))
          (λ (outside : length middle ≤ index). h.good index row outside e)
          (cases_lt index (length middle));
    }

pub laid_nothing : (code : Code) (rows : List Row) (next : ℕ) → next < length rows → IsLaid code rows rows [] next next
laid_nothing code rows next h = record { longer = longer_nothing code rows; inside = h; rest = refl }

-- one part in front of another
pub laid_front : (code : Code) (before middle after : List Row) (front back : List Op) (next at index : ℕ) →
    IsLaid code before middle back next at → IsLaid code middle after front at index →
    IsLaid code before after (front ++ back) next index
laid_front code before middle after front back next at index b f =
    record {
      longer = longer_still code before middle after b.longer f.longer;
      inside = f.inside;
      rest = f.rest ∙ ap (λ (os : List Op). front ++ os) b.rest ∙ sym (append_assoc front back (rest_at before next));
    }

-- one row behind rows that were laid out, that goes on in front of `next`
module _ (code : Code) (rows : List Row) (row : Row) (asked : row.instruction ≡ instruction_of code row.op)
    (down : row.next < length rows) (if_true : row.if_true < length rows) (if_false : row.if_false < length rows)
    (branch : (condition : Bool) (front : List Op) → put_in_front code row.op condition ≡ Some front →
    rest_at rows (target row condition) ≡ front ++ rest_at rows row.next) where
  more : IsLonger code rows (rows ++ row ∷ [])
  unfolding target
  more =
      record {
        grown = (row ∷ [], refl);
        good = λ index other l e.
            let within = slice_get_within (rows ++ row ∷ []) index other e in
            let len = length-append rows (row ∷ []) in
            let last : length rows ≡ index = omega (arith, l, within, len) in
            let same : Some row ≡ Some other = sym (get_here rows [] row) ∙ ap (slice_get (rows ++ row ∷ [])) last ∙ e in
            let is : row ≡ other = cc in
            let here : GoesOn code (rows ++ row ∷ []) (length rows) row =
            record {
              asked = asked;
              down = down;
              if_true = omega (arith, len, if_true);
              if_false = omega (arith, len, if_false);
              branch = λ condition front e.
                  let t : target row condition < length rows = elim condition as (λ c. target row c < length rows) [ true ↦ if_true | false ↦ if_false ] in
                  rest_front rows (row ∷ []) (target row condition) t ∙ branch condition front e
                  ∙ ap (λ (os : List Op). front ++ os) (sym (rest_front rows (row ∷ []) row.next down));
            } in
            subst (λ (p : ℕ). GoesOn code (rows ++ row ∷ []) p other) last
            (subst (λ (r : Row). GoesOn code (rows ++ row ∷ []) (length rows) r) is here);
      }

  pub laid_row : IsLaid code rows (rows ++ row ∷ []) (row.op ∷ []) row.next (length rows)
  laid_row =
      record {
        longer = more;
        inside = let len = length-append rows (row ∷ []) in omega (arith, len);
        rest = rest_is (rows ++ row ∷ []) (length rows) row (get_here rows [] row) down
            ∙ ap (λ (os : List Op). row.op ∷ os) (rest_front rows (row ∷ []) row.next down);
      }

-- an operation that puts nothing in front
pub laid_plain : (code : Code) (rows : List Row) (op : Op) (next : ℕ) → next < length rows →
    ((condition : Bool) → put_in_front code op condition ≡ None) →
    IsLaid code rows (rows ++ row_of code op next next next ∷ []) (op ∷ []) next (length rows)
laid_plain code rows op next h plain =
    laid_row code rows (row_of code op next next next) refl h h h
    (λ condition front e. absurd (let n = plain condition in cc))

-- an operation that chooses between two parts
pub laid_choice : (code : Code) (before middle rows : List Row) (op : Op) (if_true if_false : List Op)
    (next on_true on_false : ℕ) → next < length before →
    ((front : List Op) → put_in_front code op true ≡ Some front → if_true ≡ front) →
    ((front : List Op) → put_in_front code op false ≡ Some front → if_false ≡ front) →
    IsLaid code before middle if_true next on_true → IsLaid code middle rows if_false next on_false →
    IsLaid code before (rows ++ row_of code op next on_true on_false ∷ []) (op ∷ []) next (length rows)
unfolding target
laid_choice code before middle rows op if_true if_false next on_true on_false h true_is false_is y n =
    let bm = longer_length code before middle y.longer in
    let mr = longer_length code middle rows n.longer in
    let next_m : rest_at middle next ≡ rest_at before next = longer_rest code before middle y.longer next h in
    let next_r : rest_at rows next ≡ rest_at middle next =
    longer_rest code middle rows n.longer next (omega (arith, h, bm)) in
    let r = laid_row code rows (row_of code op next on_true on_false) refl (omega (arith, h, bm, mr))
    (omega (arith, y.inside, mr)) n.inside
    (λ condition. elim condition as (λ c. (front : List Op) → put_in_front code op c ≡ Some front →
    rest_at rows (target (row_of code op next on_true on_false) c) ≡ front ++ rest_at rows next) [
      | true ↦ λ front e.
          longer_rest code middle rows n.longer on_true y.inside ∙ y.rest
          ∙ ap (λ (os : List Op). os ++ rest_at before next) (true_is front e)
          ∙ ap (λ (os : List Op). front ++ os) (sym next_m ∙ sym next_r)
      | false ↦ λ front e.
          n.rest ∙ ap (λ (os : List Op). os ++ rest_at middle next) (false_is front e)
          ∙ ap (λ (os : List Op). front ++ os) (sym next_r)
    ]) in
    record {
      longer = longer_still code before rows _ (longer_still code before middle rows y.longer n.longer) r.longer;
      inside = r.inside;
      rest = r.rest ∙ ap (λ (os : List Op). op ∷ os) (next_r ∙ next_m);
    }

-- the first row of a list behind others, with other targets: the others stay as they were
patched_good : (code : Code) (xs ys : List Row) (x y : Row) → head_of x ≡ head_of y →
    (index : ℕ) (row : Row) → GoesOn code (xs ++ x ∷ ys) index row → GoesOn code (xs ++ y ∷ ys) index row
patched_good code xs ys x y e index row g =
    let len : length (xs ++ x ∷ ys) ≡ length (xs ++ y ∷ ys) =
    (let a = length-append xs (x ∷ ys) in let b = length-append xs (y ∷ ys) in omega (arith, a, b)) in
    record {
      asked = g.asked;
      down = g.down;
      if_true = omega (arith, len, g.if_true);
      if_false = omega (arith, len, g.if_false);
      branch = λ condition front h.
          sym (rest_patched xs ys x y e (target row condition)) ∙ g.branch condition front h
          ∙ ap (λ (os : List Op). front ++ os) (rest_patched xs ys x y e row.next);
    }

get_patched : (xs ys : List Row) (x y : Row) (p : ℕ) → length xs < p →
    slice_get (xs ++ x ∷ ys) p ≡ slice_get (xs ++ y ∷ ys) p
get_patched [] ys x y zero h = absurd (omega (arith, h))
get_patched [] ys x y (suc p) h = refl
get_patched (z ∷ xs) ys x y zero h = absurd (omega (arith, h))
get_patched (z ∷ xs) ys x y (suc p) h = get_patched xs ys x y p (omega (arith, h))

-- a loop: its row stands first, then its turn is laid out in front of that row, then the row gets its target
pub laid_loop : (code : Code) (before laid : List Row) (op : Op) (turn : List Op) (next start : ℕ) →
    next < length before →
    ((front : List Op) → put_in_front code op true ≡ Some front → turn ++ op ∷ [] ≡ front) →
    ((front : List Op) → put_in_front code op false ≡ Some front → [] ≡ front) →
    (l : IsLaid code (before ++ row_of code op next next next ∷ []) laid turn (length before) start) →
    IsLaid code before (before ++ row_of code op next start next ∷ l.longer.grown.0) (op ∷ []) next (length before)
unfolding target
laid_loop code before laid op turn next start h true_is false_is l =
    let first : Row = row_of code op next next next in
    let last : Row = row_of code op next start next in
    let ys = l.longer.grown.0 in
    let laid_is : laid ≡ before ++ first ∷ ys = l.longer.grown.1 ∙ append_assoc before (first ∷ []) ys in
    let len : length (before ++ last ∷ ys) ≡ length laid = (let e = ap length laid_is in let a = length-append before (first ∷ ys) in let b = length-append before (last ∷ ys) in omega (arith, e, a, b)) in
    let wide = length-append before (last ∷ ys) in
    let same : (p : ℕ) → rest_at (before ++ last ∷ ys) p ≡ rest_at laid p =
    λ p. sym (ap (λ rows. rest_at rows p) laid_is ∙ rest_patched before ys first last refl p) in
    let old : (p : ℕ) → p < length before → rest_at (before ++ last ∷ ys) p ≡ rest_at before p = λ p b. rest_front before (last ∷ ys) p b in
    let here : slice_get (before ++ last ∷ ys) (length before) ≡ Some last = get_here before ys last in
    let begin : rest_at (before ++ last ∷ ys) (length before) ≡ op ∷ rest_at before next =
    rest_is (before ++ last ∷ ys) (length before) last here h ∙ ap (λ (os : List Op). op ∷ os) (old next h) in
    let first_rest : rest_at (before ++ first ∷ []) (length before) ≡ op ∷ rest_at before next =
    rest_is (before ++ first ∷ []) (length before) first (get_here before [] first) h
    ∙ ap (λ (os : List Op). op ∷ os) (rest_front before (first ∷ []) next h) in
    let good_last : GoesOn code (before ++ last ∷ ys) (length before) last =
    record {
      asked = refl;
      down = h;
      if_true = omega (arith, len, l.inside);
      if_false = omega (arith, h, wide);
      branch = λ condition. elim condition as (λ c. (front : List Op) → put_in_front code op c ≡ Some front →
          rest_at (before ++ last ∷ ys) (target last c) ≡ front ++ rest_at (before ++ last ∷ ys) next) [
            | true ↦ λ front e.
                same start ∙ l.rest ∙ ap (λ (os : List Op). turn ++ os) first_rest
                ∙ sym (append_assoc turn (op ∷ []) (rest_at before next))
                ∙ ap (λ (os : List Op). os ++ rest_at before next) (true_is front e)
                ∙ ap (λ (os : List Op). front ++ os) (sym (old next h))
            | false ↦ λ front e. ap (λ (os : List Op). os ++ rest_at (before ++ last ∷ ys) next) (false_is front e)
          ];
    } in
    record {
      longer = record {
        grown = (last ∷ ys, refl);
        good = λ index row low e. ⊎_elim
            (λ (behind : length before < index).
            let there : slice_get laid index ≡ Some row =
            ap (λ rows. slice_get rows index) laid_is ∙ get_patched before ys first last index behind ∙ e in
            let wide_first = length-append before (first ∷ []) in
            patched_good code before ys first last refl index row
            (subst (λ rows. GoesOn code rows index row) laid_is
            (l.longer.good index row (omega (arith, wide_first, behind)) there)))
            (λ (at : index ≤ length before).
            let is : length before ≡ index = omega (arith, at, low) in
            let equal : Some last ≡ Some row = sym here ∙ ap (slice_get (before ++ last ∷ ys)) is ∙ e in
            let same_row : last ≡ row = cc in
            subst (λ (p : ℕ). GoesOn code (before ++ last ∷ ys) p row) is
            (subst (λ (r : Row). GoesOn code (before ++ last ∷ ys) (length before) r) same_row good_last))
            (cases_lt (length before) index);
      };
      inside = omega (arith, wide);
      rest = begin;
    }

-- what is known of rows and places that are the same
pub laid_at : (code : Code) (before after rows : List Row) (ops : List Op) (next index at : ℕ) → rows ≡ after →
    at ≡ index → IsLaid code before after ops next index → IsLaid code before rows ops next at
laid_at code before after rows ops next index at same is l =
    subst (λ (rows : List Row). IsLaid code before rows ops next at) (sym same)
    (subst (λ (at : ℕ). IsLaid code before after ops next at) (sym is) l)
