-- The canonical lexemes of types and of what stands behind a class's name are read as the same.
use Rattle.std.proofs.Common.{◌≡◌, ℕ, true, false, List, [], ◌∷◌, ◌++◌, Some, None, slice_get, length, refl, ap, ◌∙◌}
use Rattle.scj_base.specs.Vocabulary.{word_boolean, word_int, word_long, word_void, sign_left_bracket, sign_right_bracket, sign_less, sign_greater}
use Rattle.scj_base.specs.Lex.{position_behind}
use Rattle.scj_tree.specs.declared.nodes.Node.{Node}
use Rattle.scj_tree.specs.declared.nodes.Node.TheVariants.{SuperType, TypeArgument, IntType, BooleanType, ClassType, VoidType, LongType}
use Rattle.scj_tree.specs.Lexemes.{Lexeme}
use Rattle.scj_tree.specs.Headers.{TypeRead, int_type, int_array, boolean_type, boolean_array, class_type, class_array, argument_type, argument_array, ResultRead, typed_result, void_result, long_result, SuperRead, super_type, super_type_with_argument}
use Rattle.scj_tree.specs.Nodes.{put}
use Rattle.scj_tree.specs.Forest.{ChildrenFirst}
use Rattle.scj_tree.specs.Shape.{children}
use Rattle.scj_show.specs.Parts.{parts_of, argument_in_brackets, brackets, class_type_parts}
use Rattle.scj_show.specs.Symbols.{Symbol, a_name, a_word, a_sign, own_symbols, symbols_of_part, symbols_of_parts}
use Rattle.scj_show.specs.Placed.{printed, lexeme_at}
use Rattle.scj_show.specs.Alike.{shape, in_order, alike, none_alike, one_alike}
use Rattle.scj_show.proofs.Again.{Front, front-one, front-then, front-put, front-at, whole, whole_at, laid, Reported, reported_of, reported_moved}

-- ---- reading puts nodes behind the others

pub type_front : {N N1 : List Node} {i o : List Lexeme} {id : ℕ} → TypeRead N i N1 o id → Front N N1
type_front int_type = front-one _
type_front int_array = front-one _
type_front boolean_type = front-one _
type_front boolean_array = front-one _
type_front class_type = front-one _
type_front class_array = front-one _
type_front (argument_type h) = front-then (front-one _) (front-one _)
type_front (argument_array h) = front-then (front-one _) (front-one _)

pub result_front : {N N1 : List Node} {i o : List Lexeme} {id : ℕ} → ResultRead N i N1 o id → Front N N1
result_front (typed_result d) = type_front d
result_front void_result = front-one _
result_front long_result = front-one _

pub super_front : {N N1 : List Node} {i o : List Lexeme} {id : ℕ} → SuperRead N i N1 o id → Front N N1
super_front super_type = front-one _
super_front (super_type_with_argument h) = front-then (front-one _) (front-one _)

-- ---- types

pub type_again : (W : List Node) → ChildrenFirst 0 W →
    (file : ℕ) (M : List Node) (b : List ℕ) (o2 : List Lexeme) {N N1 : List Node} {i o : List Lexeme} {id : ℕ} →
    TypeRead N i N1 o id → Front N1 W → Reported TypeRead W M (laid file b (whole W id) o2) o2 id
unfolding symbols_of_parts symbols_of_part own_symbols parts_of class_type_parts argument_in_brackets brackets lexeme_at
    shape in_order children laid
type_again W first file M b o2 (int_type {N = N} {p = p}) f =
    let at : slice_get W (length N) ≡ Some (IntType p false) = front-at _ _ f in
    let said : whole W (length N) ≡ a_word word_int ∷ [] = whole_at W _ _ first at in
    reported_moved (ap (λ (ss : List Symbol). laid file b ss o2) said)
    (reported_of (put M (IntType (position_behind file b) false)) (length M) (front-one _) (int_type)
    (λ V g. alike at (front-at _ _ g) refl none_alike))
type_again W first file M b o2 (int_array {N = N} {p = p}) f =
    let at : slice_get W (length N) ≡ Some (IntType p true) = front-at _ _ f in
    let said : whole W (length N) ≡ a_word word_int ∷ a_sign sign_left_bracket ∷ a_sign sign_right_bracket ∷ [] =
    whole_at W _ _ first at in
    reported_moved (ap (λ (ss : List Symbol). laid file b ss o2) said)
    (reported_of (put M (IntType (position_behind file b) true)) (length M) (front-one _) (int_array)
    (λ V g. alike at (front-at _ _ g) refl none_alike))
type_again W first file M b o2 (boolean_type {N = N} {p = p}) f =
    let at : slice_get W (length N) ≡ Some (BooleanType p false) = front-at _ _ f in
    let said : whole W (length N) ≡ a_word word_boolean ∷ [] = whole_at W _ _ first at in
    reported_moved (ap (λ (ss : List Symbol). laid file b ss o2) said)
    (reported_of (put M (BooleanType (position_behind file b) false)) (length M) (front-one _) (boolean_type)
    (λ V g. alike at (front-at _ _ g) refl none_alike))
type_again W first file M b o2 (boolean_array {N = N} {p = p}) f =
    let at : slice_get W (length N) ≡ Some (BooleanType p true) = front-at _ _ f in
    let said : whole W (length N) ≡ a_word word_boolean ∷ a_sign sign_left_bracket ∷ a_sign sign_right_bracket ∷ [] =
    whole_at W _ _ first at in
    reported_moved (ap (λ (ss : List Symbol). laid file b ss o2) said)
    (reported_of (put M (BooleanType (position_behind file b) true)) (length M) (front-one _) (boolean_array)
    (λ V g. alike at (front-at _ _ g) refl none_alike))
type_again W first file M b o2 (class_type {N = N} {w = w} {p = p}) f =
    let at : slice_get W (length N) ≡ Some (ClassType p w None false) = front-at _ _ f in
    let said : whole W (length N) ≡ a_name w ∷ [] = whole_at W _ _ first at in
    reported_moved (ap (λ (ss : List Symbol). laid file b ss o2) said)
    (reported_of (put M (ClassType (position_behind file b) w None false)) (length M) (front-one _) (class_type)
    (λ V g. alike at (front-at _ _ g) refl none_alike))
type_again W first file M b o2 (class_array {N = N} {w = w} {p = p}) f =
    let at : slice_get W (length N) ≡ Some (ClassType p w None true) = front-at _ _ f in
    let said : whole W (length N) ≡ a_name w ∷ a_sign sign_left_bracket ∷ a_sign sign_right_bracket ∷ [] =
    whole_at W _ _ first at in
    reported_moved (ap (λ (ss : List Symbol). laid file b ss o2) said)
    (reported_of (put M (ClassType (position_behind file b) w None true)) (length M) (front-one _) (class_array)
    (λ V g. alike at (front-at _ _ g) refl none_alike))
type_again W first file M b o2 (argument_type {N = N} {w = w} {v = v} {p = p} {r = r} h) f =
    let at : slice_get W (length (put N (TypeArgument r v))) ≡ Some (ClassType p w (Some (length N)) false) =
    front-at _ _ f in
    let under : slice_get W (length N) ≡ Some (TypeArgument r v) = front-at _ _ (front-put _ _ f) in
    let argument : whole W (length N) ≡ a_name v ∷ [] = whole_at W _ _ first under in
    let said : whole W (length (put N (TypeArgument r v))) ≡ a_name w ∷ a_sign sign_less
    ∷ (whole W (length N) ++ (a_sign sign_greater ∷ [])) = whole_at W _ _ first at in
    let b2 : List ℕ = (b ++ printed (a_name w)) ++ printed (a_sign sign_less) in
    reported_moved
    (ap (λ (ss : List Symbol). laid file b ss o2)
    (said ∙ ap (λ (ss : List Symbol). a_name w ∷ a_sign sign_less ∷ (ss ++ (a_sign sign_greater ∷ []))) argument))
    (reported_of
    (put (put M (TypeArgument (position_behind file b2) v))
    (ClassType (position_behind file b) w (Some (length M)) false))
    (length (put M (TypeArgument (position_behind file b2) v))) (front-then (front-one _) (front-one _))
    (argument_type h)
    (λ V g. alike at (front-at _ _ g) refl
    (one_alike (alike under (front-at _ _ (front-put _ _ g)) refl none_alike) none_alike)))
type_again W first file M b o2 (argument_array {N = N} {w = w} {v = v} {p = p} {r = r} h) f =
    let at : slice_get W (length (put N (TypeArgument r v))) ≡ Some (ClassType p w (Some (length N)) true) =
    front-at _ _ f in
    let under : slice_get W (length N) ≡ Some (TypeArgument r v) = front-at _ _ (front-put _ _ f) in
    let argument : whole W (length N) ≡ a_name v ∷ [] = whole_at W _ _ first under in
    let said : whole W (length (put N (TypeArgument r v))) ≡ a_name w ∷ a_sign sign_less
    ∷ (whole W (length N) ++ (a_sign sign_greater ∷ a_sign sign_left_bracket ∷ a_sign sign_right_bracket ∷ [])) =
    whole_at W _ _ first at in
    let b2 : List ℕ = (b ++ printed (a_name w)) ++ printed (a_sign sign_less) in
    reported_moved
    (ap (λ (ss : List Symbol). laid file b ss o2)
    (said
    ∙ ap (λ (ss : List Symbol). a_name w ∷ a_sign sign_less
    ∷ (ss ++ (a_sign sign_greater ∷ a_sign sign_left_bracket ∷ a_sign sign_right_bracket ∷ []))) argument))
    (reported_of
    (put (put M (TypeArgument (position_behind file b2) v)) (ClassType (position_behind file b) w (Some (length M)) true))
    (length (put M (TypeArgument (position_behind file b2) v))) (front-then (front-one _) (front-one _))
    (argument_array h)
    (λ V g. alike at (front-at _ _ g) refl
    (one_alike (alike under (front-at _ _ (front-put _ _ g)) refl none_alike) none_alike)))

pub result_again : (W : List Node) → ChildrenFirst 0 W →
    (file : ℕ) (M : List Node) (b : List ℕ) (o2 : List Lexeme) {N N1 : List Node} {i o : List Lexeme} {id : ℕ} →
    ResultRead N i N1 o id → Front N1 W → Reported ResultRead W M (laid file b (whole W id) o2) o2 id
unfolding symbols_of_parts symbols_of_part own_symbols parts_of lexeme_at shape in_order children laid
result_again W first file M b o2 (typed_result d) f = let a = type_again W first file M b o2 d f in
    reported_of a.nodes a.place a.grown (typed_result a.read) a.alike
result_again W first file M b o2 (void_result {N = N} {p = p}) f =
    let at : slice_get W (length N) ≡ Some (VoidType p) = front-at _ _ f in
    let said : whole W (length N) ≡ a_word word_void ∷ [] = whole_at W _ _ first at in
    reported_moved (ap (λ (ss : List Symbol). laid file b ss o2) said)
    (reported_of (put M (VoidType (position_behind file b))) (length M) (front-one _) (void_result)
    (λ V g. alike at (front-at _ _ g) refl none_alike))
result_again W first file M b o2 (long_result {N = N} {p = p}) f =
    let at : slice_get W (length N) ≡ Some (LongType p) = front-at _ _ f in
    let said : whole W (length N) ≡ a_word word_long ∷ [] = whole_at W _ _ first at in
    reported_moved (ap (λ (ss : List Symbol). laid file b ss o2) said)
    (reported_of (put M (LongType (position_behind file b))) (length M) (front-one _) (long_result)
    (λ V g. alike at (front-at _ _ g) refl none_alike))

-- ---- superclasses and interfaces

pub super_again : (W : List Node) → ChildrenFirst 0 W →
    (file : ℕ) (M : List Node) (b : List ℕ) (o2 : List Lexeme) {N N1 : List Node} {i o : List Lexeme} {id : ℕ} →
    SuperRead N i N1 o id → Front N1 W → Reported SuperRead W M (laid file b (whole W id) o2) o2 id
unfolding symbols_of_parts symbols_of_part own_symbols parts_of argument_in_brackets lexeme_at shape in_order children
    laid
super_again W first file M b o2 (super_type {N = N} {w = w} {p = p}) f =
    let at : slice_get W (length N) ≡ Some (SuperType p w None) = front-at _ _ f in
    let said : whole W (length N) ≡ a_name w ∷ [] = whole_at W _ _ first at in
    reported_moved (ap (λ (ss : List Symbol). laid file b ss o2) said)
    (reported_of (put M (SuperType (position_behind file b) w None)) (length M) (front-one _) (super_type)
    (λ V g. alike at (front-at _ _ g) refl none_alike))
super_again W first file M b o2 (super_type_with_argument {N = N} {w = w} {v = v} {p = p} {r = r} h) f =
    let at : slice_get W (length (put N (TypeArgument r v))) ≡ Some (SuperType p w (Some (length N))) =
    front-at _ _ f in
    let under : slice_get W (length N) ≡ Some (TypeArgument r v) = front-at _ _ (front-put _ _ f) in
    let argument : whole W (length N) ≡ a_name v ∷ [] = whole_at W _ _ first under in
    let said : whole W (length (put N (TypeArgument r v))) ≡ a_name w ∷ a_sign sign_less
    ∷ (whole W (length N) ++ (a_sign sign_greater ∷ [])) = whole_at W _ _ first at in
    let b2 : List ℕ = (b ++ printed (a_name w)) ++ printed (a_sign sign_less) in
    reported_moved
    (ap (λ (ss : List Symbol). laid file b ss o2)
    (said ∙ ap (λ (ss : List Symbol). a_name w ∷ a_sign sign_less ∷ (ss ++ (a_sign sign_greater ∷ []))) argument))
    (reported_of
    (put (put M (TypeArgument (position_behind file b2) v)) (SuperType (position_behind file b) w (Some (length M))))
    (length (put M (TypeArgument (position_behind file b2) v))) (front-then (front-one _) (front-one _))
    (super_type_with_argument h)
    (λ V g. alike at (front-at _ _ g) refl
    (one_alike (alike under (front-at _ _ (front-put _ _ g)) refl none_alike) none_alike)))
