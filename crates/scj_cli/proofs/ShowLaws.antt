-- Texts put one after another.
use Rattle.std.proofs.Common.{◌≡◌, ℕ, ◌+◌, ◌<◌, List, [], ◌∷◌, ◌++◌, ◌≤◌, length, get_or, take, drop, Option, ap, sym, ◌∙◌, subst, append_assoc, append-nil}
use Rattle.std.specs.List.{flat_map}
use Rattle.std.proofs.lemmas.List.{take-append-drop, drop_more, drop_all}
use Rattle.std.proofs.lemmas.List.Concat.{flat_map-append}
use Rattle.scj_io.specs.Puts.{sink_run, PutWhole, PutFront}
use Rattle.scj_io.proofs.PutLaws.{PutWhole-then-front, PutFront-more}
use Rattle.scj_tree.specs.Forest.{Forest}
use Rattle.scj_show.specs.Symbols.{text_of_file}
use Rattle.scj_cli.specs.Answers.{shown_from}

-- what stands before a place, at it and behind it
parted : {X : Type 0} (f : X → List ℕ) (xs : List X) (k : ℕ) (d : X) → k < length xs →
    flat_map f xs ≡ (flat_map f (take k xs) ++ f (get_or xs k d)) ++ flat_map f (drop (k + 1) xs)
parted f xs k d within =
    ap (flat_map f) (sym (take-append-drop k xs))
    ∙ (flat_map-append f (take k xs) (drop k xs)
    ∙ (ap (λ (ys : List _). flat_map f (take k xs) ++ flat_map f ys) (drop_more xs k d within)
    ∙ sym (append_assoc (flat_map f (take k xs)) (f (get_or xs k d)) (flat_map f (drop (k + 1) xs)))))

-- a put that failed at one of the texts
pub front_of_all : {X : Type 0} (f : X → List ℕ) (xs : List X) (k : ℕ) (d : X) (t u v : Option (List ℕ)) (n m o : ℕ) →
    k < length xs → PutWhole (sink_run t u n m) (flat_map f (take k xs)) →
    PutFront (sink_run u v m o) (f (get_or xs k d)) → PutFront (sink_run t v n o) (flat_map f xs)
front_of_all f xs k d t u v n m o within put failed =
    subst (λ (text : List ℕ). PutFront (sink_run t v n o) text) (sym (parted f xs k d within))
    (PutFront-more (PutWhole-then-front put failed) (flat_map f (drop (k + 1) xs)))

-- the text of one file more
shown_at : (forest : Forest) (k : ℕ) → k < length forest.files →
    shown_from forest k (drop k forest.files) ≡ text_of_file forest k
    ++ shown_from forest (k + 1) (drop (k + 1) forest.files)
unfolding shown_from
shown_at forest k within =
    ap (λ (files : List (List ℕ)). shown_from forest k files) (drop_more forest.files k [] within)

shown_beyond : (forest : Forest) (k : ℕ) → length forest.files ≤ k → shown_from forest k (drop k forest.files) ≡ []
unfolding shown_from
shown_beyond forest k beyond =
    ap (λ (files : List (List ℕ)). shown_from forest k files) (drop_all k forest.files beyond)

last_text : {X : Type 0} (f : X → List ℕ) (xs : List X) (x : X) → flat_map f (xs ++ x ∷ []) ≡ flat_map f xs ++ f x
last_text f xs x = flat_map-append f xs (x ∷ []) ∙ ap (λ (y : List ℕ). flat_map f xs ++ y) (append-nil (f x))

pub shown_more : {X : Type 0} (f : X → List ℕ) (forest : Forest) (k : ℕ) (texts grown : List X) (x : X)
    (whole : List ℕ) → k < length forest.files → f x ≡ text_of_file forest k → grown ≡ texts ++ x ∷ [] →
    flat_map f texts ++ shown_from forest k (drop k forest.files) ≡ whole → flat_map f grown
    ++ shown_from forest (k + 1) (drop (k + 1) forest.files) ≡ whole
shown_more f forest k texts grown x whole within text is so_far =
    ap (λ (ts : List _). flat_map f ts ++ shown_from forest (k + 1) (drop (k + 1) forest.files)) is
    ∙ (ap (λ (y : List ℕ). y ++ shown_from forest (k + 1) (drop (k + 1) forest.files)) (last_text f texts x)
    ∙ (append_assoc (flat_map f texts) (f x) (shown_from forest (k + 1) (drop (k + 1) forest.files))
    ∙ (ap (λ (y : List ℕ). flat_map f texts ++ (y ++ shown_from forest (k + 1) (drop (k + 1) forest.files))) text
    ∙ (ap (λ (y : List ℕ). flat_map f texts ++ y) (sym (shown_at forest k within)) ∙ so_far))))

pub shown_all : {X : Type 0} (f : X → List ℕ) (forest : Forest) (k : ℕ) (texts : List X) (whole : List ℕ) →
    length forest.files ≤ k → flat_map f texts ++ shown_from forest k (drop k forest.files) ≡ whole →
    flat_map f texts ≡ whole
shown_all f forest k texts whole beyond so_far =
    sym (append-nil (flat_map f texts))
    ∙ (ap (λ (y : List ℕ). flat_map f texts ++ y) (sym (shown_beyond forest k beyond)) ∙ so_far)
