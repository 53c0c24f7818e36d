-- The canonical lexemes of a class's header and of parameters are read as the same.
use Rattle.std.proofs.Common.{◌≡◌, ℕ, false, List, [], ◌∷◌, ◌++◌, Option, Some, None, slice_get, length, refl, ap, ◌∙◌, append-nil, append_assoc}
use Rattle.scj_base.specs.Vocabulary.{word_extends, word_implements, sign_left_brace, sign_left_parenthesis, sign_right_parenthesis, sign_comma}
use Rattle.scj_base.specs.Lex.{position_behind}
use Rattle.scj_tree.specs.declared.nodes.Node.{Node}
use Rattle.scj_tree.specs.declared.nodes.Node.TheVariants.{Supers, Parameters, Parameter}
use Rattle.scj_tree.specs.Lexemes.{Lexeme, a_name as name_at, a_word as word_at, a_sign as sign_at}
use Rattle.scj_tree.specs.Terminals.{with_flags, flags_number}
use Rattle.scj_tree.specs.Headers.{ParameterRead, parameter, ParametersBegun, no_parameter_yet, parameter_and_comma, ParametersRead, no_parameters, parameters, InterfacesBegun, no_interface_yet, interface_and_comma, HeaderRead, no_header, extends_header, implements_header, extends_implements_header}
use Rattle.scj_tree.specs.Nodes.{put}
use Rattle.scj_tree.specs.Forest.{ChildrenFirst}
use Rattle.scj_tree.specs.Shape.{children}
use Rattle.scj_show.specs.declared.parts.Part.TheVariants.{Whole, Named}
use Rattle.scj_show.specs.Parts.{parts_of, maybe, in_parentheses, extended, implemented, parameters_or_none}
use Rattle.scj_show.specs.Symbols.{Symbol, a_name, a_word, a_sign, canonical, own_symbols, symbols_of_part, symbols_of_parts, written}
use Rattle.scj_show.specs.Placed.{printed, lexeme_at}
use Rattle.scj_show.specs.Alike.{nowhere, shape, in_order, alike, none_alike, one_alike}
use Rattle.scj_show.proofs.Printing.{symbols_of_parts-append}
use Rattle.scj_show.proofs.Again.{Front, front-none, front-one, front-then, front-put, front-at, whole, whole_at, laid, laid-append, followed, followed-put, arguments_of, arguments_of-put, implemented-put, Reported, reported_of, reported_moved, AllAgain, all_again_of, all_moved, alike-put, counted-same, both_missing, both_there, there-same, optional-alike, MaybeReported, maybe_reported_of, maybe_reported_moved}
use Rattle.scj_show.proofs.HeadersAgain.{type_front, type_again, super_front, super_again}
use Rattle.scj_show.proofs.Sources.{AreOfSource, behind}
use Rattle.scj_show.proofs.Rests.{parameters_begun_rest}
use Rattle.scj_show.proofs.FlagsAgain.{flags_again, flags_front, row_front, maybe_symbols}

-- ---- reading puts nodes behind the others

pub interfaces_front : {N N1 : List Node} {i o : List Lexeme} {ids : List ℕ} → InterfacesBegun N i N1 o ids → Front N N1
interfaces_front no_interface_yet = front-none
interfaces_front (interface_and_comma d e) = front-then (interfaces_front d) (super_front e)

pub header_front : {N N1 : List Node} {i o : List Lexeme} {id : Option ℕ} → HeaderRead N i N1 o id → Front N N1
header_front no_header = front-none
header_front (extends_header d) = front-then (super_front d) (front-one _)
header_front (implements_header d e) = front-then (interfaces_front d) (front-then (super_front e) (front-one _))
header_front (extends_implements_header c d e) =
    front-then (super_front c) (front-then (interfaces_front d) (front-then (super_front e) (front-one _)))

pub parameter_front : {N N1 : List Node} {i o : List Lexeme} {id : ℕ} → ParameterRead N i N1 o id → Front N N1
parameter_front (parameter {N1 = N1} {flags = flags} d e) =
    front-then (row_front d) (front-then (flags_front N1 flags) (front-then (type_front e) (front-one _)))

parameters_begun_front : {N N1 : List Node} {i o : List Lexeme} {ids : List ℕ} → ParametersBegun N i N1 o ids →
    Front N N1
parameters_begun_front no_parameter_yet = front-none
parameters_begun_front (parameter_and_comma d e) = front-then (parameters_begun_front d) (parameter_front e)

pub parameters_front : {N N1 : List Node} {i o : List Lexeme} {id : Option ℕ} → ParametersRead N i N1 o id → Front N N1
parameters_front no_parameters = front-none
parameters_front (parameters d e) = front-then (parameters_begun_front d) (front-then (parameter_front e) (front-one _))

-- ---- headers

interfaces_again : (W : List Node) → ChildrenFirst 0 W →
    (file : ℕ) (M : List Node) (b : List ℕ) (o2 : List Lexeme) {N N1 : List Node} {i o : List Lexeme} {ids : List ℕ} →
    InterfacesBegun N i N1 o ids → Front N1 W → AllAgain InterfacesBegun W M (laid file b (followed W ids) o2) o2 ids
unfolding laid lexeme_at followed
interfaces_again W first file M b o2 no_interface_yet f =
    all_again_of M [] front-none no_interface_yet (λ V g. none_alike)
interfaces_again W first file M b o2 (interface_and_comma {ids = ids} {id = id} d1 d2) f =
    let b1 : List ℕ = b ++ canonical (followed W ids) in
    let b2 : List ℕ = b1 ++ canonical (whole W id) in
    let t2 : List Lexeme = sign_at sign_comma (position_behind file b2) ∷ o2 in
    let t1 : List Lexeme = laid file b1 (whole W id) t2 in
    let a1 = interfaces_again W first file M b t1 d1 (front-then (super_front d2) f) in
    let a2 = super_again W first file a1.nodes b1 t2 d2 f in
    let same : laid file b (followed W (ids ++ id ∷ [])) o2 ≡ laid file b (followed W ids) t1 =
    ap (λ (ss : List Symbol). laid file b ss o2) (followed-put W ids id) ∙ simp laid-append in
    all_moved same
    (all_again_of a2.nodes (a1.places ++ a2.place ∷ []) (front-then a1.grown a2.grown)
    (interface_and_comma a1.read a2.read) (λ V g. alike-put (a1.alike V (front-then a2.grown g)) (a2.alike V g)))

pub header_again : (W : List Node) → ChildrenFirst 0 W →
    (file : ℕ) (M : List Node) (b : List ℕ) (o2 : List Lexeme) {N N1 : List Node} {i o : List Lexeme} {id : Option ℕ} →
    HeaderRead N i N1 o id → Front N1 W →
    MaybeReported HeaderRead W M (laid file b (maybe_symbols W id ++ a_sign sign_left_brace ∷ []) o2) o2 id
unfolding maybe_symbols maybe symbols_of_parts symbols_of_part own_symbols parts_of extended implemented lexeme_at shape
    in_order children laid
header_again W first file M b o2 no_header f = maybe_reported_of M None front-none no_header (λ V g. both_missing)
header_again W first file M b o2 (extends_header {N1 = N1} {super = super} {p = p} d) f =
    let at : slice_get W (length N1) ≡ Some (Supers p (Some super) []) = front-at _ _ f in
    let said0 : whole W (length N1) ≡ symbols_of_parts (written W) (extended (Some super) ++ implemented []) =
    whole_at W _ _ first at in
    let said : whole W (length N1) ≡ a_word word_extends ∷ whole W super =
    said0 ∙ ap (λ (ss : List Symbol). a_word word_extends ∷ ss) (append-nil (whole W super)) in
    let b1 : List ℕ = b ++ printed (a_word word_extends) in
    let b2 : List ℕ = b1 ++ canonical (whole W super) in
    let t2 : List Lexeme = sign_at sign_left_brace (position_behind file b2) ∷ o2 in
    let t1 : List Lexeme = laid file b1 (whole W super) t2 in
    let a1 = super_again W first file M b1 t2 d (front-put _ _ f) in
    let opened : laid file b (maybe_symbols W (Some (length N1)) ++ a_sign sign_left_brace ∷ []) o2
    ≡ word_at word_extends (position_behind file b) ∷ laid file b1 (whole W super ++ a_sign sign_left_brace ∷ []) o2 =
    ap (λ (ss : List Symbol). laid file b (ss ++ a_sign sign_left_brace ∷ []) o2) (append-nil (whole W (length N1))
    ∙ said) in
    let same : laid file b (maybe_symbols W (Some (length N1)) ++ a_sign sign_left_brace ∷ []) o2 ≡ word_at word_extends
    (position_behind file b) ∷ t1 = opened ∙ simp laid-append in
    maybe_reported_moved same
    (maybe_reported_of (put a1.nodes (Supers (position_behind file b) (Some a1.place) [])) (Some (length a1.nodes))
    (front-then a1.grown (front-one _)) (extends_header a1.read)
    (λ V g. both_there (alike at (front-at _ _ g) refl (one_alike (a1.alike V (front-put _ _ g)) none_alike))))
header_again W first file M b o2 (implements_header {N2 = N2} {ids = ids} {id = id} {p = p} d1 d2) f =
    let at : slice_get W (length N2) ≡ Some (Supers p None (ids ++ id ∷ [])) = front-at _ _ f in
    let said0 : whole W (length N2) ≡ symbols_of_parts (written W) (implemented (ids ++ id ∷ [])) =
    whole_at W _ _ first at in
    let said : whole W (length N2) ≡ a_word word_implements ∷ (followed W ids ++ whole W id) =
    said0 ∙ implemented-put W ids id ∙ ap (λ (ss : List Symbol). a_word word_implements ∷ (followed W ids ++ ss))
    (append-nil (whole W id)) in
    let b1 : List ℕ = b ++ printed (a_word word_implements) in
    let b2 : List ℕ = b1 ++ canonical (followed W ids) in
    let b3 : List ℕ = b2 ++ canonical (whole W id) in
    let t3 : List Lexeme = sign_at sign_left_brace (position_behind file b3) ∷ o2 in
    let t2 : List Lexeme = laid file b2 (whole W id) t3 in
    let t1 : List Lexeme = laid file b1 (followed W ids) t2 in
    let a1 = interfaces_again W first file M b1 t2 d1 (front-then (super_front d2) (front-put _ _ f)) in
    let a2 = super_again W first file a1.nodes b2 t3 d2 (front-put _ _ f) in
    let same : laid file b (maybe_symbols W (Some (length N2)) ++ a_sign sign_left_brace ∷ []) o2
    ≡ word_at word_implements (position_behind file b) ∷ t1 =
    ap (λ (ss : List Symbol). laid file b (ss ++ a_sign sign_left_brace ∷ []) o2) (append-nil (whole W (length N2))
    ∙ said) ∙ ap (λ (ss : List Symbol). word_at word_implements (position_behind file b) ∷ laid file b1 ss o2)
    (append_assoc (followed W ids) (whole W id) (a_sign sign_left_brace ∷ [])) ∙ simp laid-append in
    maybe_reported_moved same (maybe_reported_of (put a2.nodes (Supers (position_behind file b) None (a1.places ++ a2.place ∷ [])))
    (Some (length a2.nodes)) (front-then a1.grown (front-then a2.grown (front-one _)))
    (implements_header a1.read a2.read)
    (λ V g. let all = alike-put (a1.alike V (front-then a2.grown (front-put _ _ g))) (a2.alike V (front-put _ _ g))
    in both_there (alike at (front-at _ _ g) (ap (λ (t : List ℕ). Supers nowhere None t) (counted-same all)) all)))
header_again W first file M b o2
    (extends_implements_header {N3 = N3} {super = super} {ids = ids} {id = id} {p = p} d0 d1 d2) f =
    let at : slice_get W (length N3) ≡ Some (Supers p (Some super) (ids ++ id ∷ [])) = front-at _ _ f in
    let said0 : whole W (length N3) ≡ a_word word_extends
    ∷ (whole W super ++ symbols_of_parts (written W) (implemented (ids ++ id ∷ []))) = whole_at W _ _ first at in
    let said : whole W (length N3) ≡ a_word word_extends
    ∷ (whole W super ++ (a_word word_implements ∷ (followed W ids ++ whole W id))) =
    said0 ∙ ap (λ (ss : List Symbol). a_word word_extends ∷ (whole W super ++ ss))
    (implemented-put W ids id ∙ ap (λ (ss : List Symbol). a_word word_implements ∷ (followed W ids ++ ss))
    (append-nil (whole W id))) in
    let b1 : List ℕ = b ++ printed (a_word word_extends) in
    let b2 : List ℕ = b1 ++ canonical (whole W super) in
    let b3 : List ℕ = b2 ++ printed (a_word word_implements) in
    let b4 : List ℕ = b3 ++ canonical (followed W ids) in
    let b5 : List ℕ = b4 ++ canonical (whole W id) in
    let t5 : List Lexeme = sign_at sign_left_brace (position_behind file b5) ∷ o2 in
    let t4 : List Lexeme = laid file b4 (whole W id) t5 in
    let t3 : List Lexeme = laid file b3 (followed W ids) t4 in
    let t2 : List Lexeme = word_at word_implements (position_behind file b2) ∷ t3 in
    let t1 : List Lexeme = laid file b1 (whole W super) t2 in
    let f3 = front-put _ _ f in
    let a0 = super_again W first file M b1 t2 d0 (front-then (interfaces_front d1) (front-then (super_front d2) f3)) in
    let a1 = interfaces_again W first file a0.nodes b3 t4 d1 (front-then (super_front d2) f3) in
    let a2 = super_again W first file a1.nodes b4 t5 d2 f3 in
    let flat : (whole W super ++ (a_word word_implements ∷ (followed W ids ++ whole W id))) ++ a_sign sign_left_brace
    ∷ [] ≡ whole W super
    ++ (a_word word_implements ∷ (followed W ids ++ (whole W id ++ a_sign sign_left_brace ∷ []))) =
    append_assoc (whole W super) _ _ ∙ ap (λ (ss : List Symbol). whole W super ++ (a_word word_implements ∷ ss))
    (append_assoc (followed W ids) (whole W id) (a_sign sign_left_brace ∷ [])) in
    let same : laid file b (maybe_symbols W (Some (length N3)) ++ a_sign sign_left_brace ∷ []) o2 ≡ word_at word_extends
    (position_behind file b) ∷ t1 = ap (λ (ss : List Symbol). laid file b (ss ++ a_sign sign_left_brace ∷ []) o2)
    (append-nil (whole W (length N3)) ∙ said)
    ∙ ap (λ (ss : List Symbol). word_at word_extends (position_behind file b) ∷ laid file b1 ss o2) flat
    ∙ simp laid-append in
    maybe_reported_moved same
    (maybe_reported_of (put a2.nodes (Supers (position_behind file b) (Some a0.place) (a1.places ++ a2.place ∷ [])))
    (Some (length a2.nodes)) (front-then a0.grown (front-then a1.grown (front-then a2.grown (front-one _))))
    (extends_implements_header a0.read a1.read a2.read)
    (λ V g. let all = alike-put (a1.alike V (front-then a2.grown (front-put _ _ g))) (a2.alike V (front-put _ _ g))
    in
    both_there (alike at (front-at _ _ g) (ap (λ (t : List ℕ). Supers nowhere (Some 0) t) (counted-same all))
    (one_alike (a0.alike V (front-then a1.grown (front-then a2.grown (front-put _ _ g)))) all))))

-- ---- parameters

pub parameter_again : (W : List Node) → ChildrenFirst 0 W →
    (file : ℕ) (M : List Node) (b : List ℕ) (o2 : List Lexeme) {N N1 : List Node} {i o : List Lexeme} {id : ℕ} →
    ParameterRead N i N1 o id → AreOfSource i → Front N1 W → Reported ParameterRead W M (laid file b (whole W id) o2) o2 id
unfolding maybe_symbols symbols_of_parts symbols_of_part own_symbols parts_of lexeme_at shape in_order children laid
parameter_again W first file M b o2 (parameter {N1 = N1} {N2 = N2} {flags = flags} {t = t} {w = w} {p = p} d1 d2) src
    f =
    let fl : Option ℕ = flags_number N1 flags in
    let at : slice_get W (length N2) ≡ Some (Parameter p w fl t) = front-at _ _ f in
    let said0 : whole W (length N2) ≡ symbols_of_parts (written W) (maybe fl ++ (Whole t ∷ Named w ∷ [])) =
    whole_at W _ _ first at in
    let said : whole W (length N2) ≡ maybe_symbols W fl ++ (whole W t ++ a_name w ∷ []) =
    said0 ∙ symbols_of_parts-append (written W) (maybe fl) (Whole t ∷ Named w ∷ []) in
    let b1 : List ℕ = b ++ canonical (maybe_symbols W fl) in
    let b2 : List ℕ = b1 ++ canonical (whole W t) in
    let t2 : List Lexeme = name_at w (position_behind file b2) ∷ o2 in
    let t1 : List Lexeme = laid file b1 (whole W t) t2 in
    let a1 = flags_again false W first file M b t1 d1 src (front-then (type_front d2) (front-put _ _ f)) in
    let a2 = type_again W first file (with_flags a1.nodes a1.flags) b1 t2 d2 (front-put _ _ f) in
    let same : laid file b (whole W (length N2)) o2 ≡ laid file b (maybe_symbols W fl) t1 =
    ap (λ (ss : List Symbol). laid file b ss o2) said ∙ simp laid-append in
    reported_moved same
    (reported_of (put a2.nodes (Parameter (position_behind file b2) w (flags_number a1.nodes a1.flags) a2.place))
    (length a2.nodes)
    (front-then a1.grown (front-then (flags_front a1.nodes a1.flags) (front-then a2.grown (front-one _))))
    (parameter a1.read a2.read) (λ V g. let fs = a1.alike V (front-then a2.grown (front-put _ _ g)) in
    alike at (front-at _ _ g) (ap (λ (x : Option ℕ). Parameter nowhere w x 0) (there-same fs))
    (optional-alike fs (one_alike (a2.alike V (front-put _ _ g)) none_alike))))

parameters_begun_again : (W : List Node) → ChildrenFirst 0 W →
    (file : ℕ) (M : List Node) (b : List ℕ) (o2 : List Lexeme) {N N1 : List Node} {i o : List Lexeme} {ids : List ℕ} →
    ParametersBegun N i N1 o ids → AreOfSource i → Front N1 W →
    AllAgain ParametersBegun W M (laid file b (followed W ids) o2) o2 ids
unfolding laid lexeme_at followed
parameters_begun_again W first file M b o2 no_parameter_yet src f =
    all_again_of M [] front-none no_parameter_yet (λ V g. none_alike)
parameters_begun_again W first file M b o2 (parameter_and_comma {ids = ids} {id = id} d1 d2) src f =
    let b1 : List ℕ = b ++ canonical (followed W ids) in
    let b2 : List ℕ = b1 ++ canonical (whole W id) in
    let t2 : List Lexeme = sign_at sign_comma (position_behind file b2) ∷ o2 in
    let t1 : List Lexeme = laid file b1 (whole W id) t2 in
    let a1 = parameters_begun_again W first file M b t1 d1 src (front-then (parameter_front d2) f) in
    let a2 = parameter_again W first file a1.nodes b1 t2 d2 (parameters_begun_rest d1 src) f in
    let same : laid file b (followed W (ids ++ id ∷ [])) o2 ≡ laid file b (followed W ids) t1 =
    ap (λ (ss : List Symbol). laid file b ss o2) (followed-put W ids id) ∙ simp laid-append in
    all_moved same
    (all_again_of a2.nodes (a1.places ++ a2.place ∷ []) (front-then a1.grown a2.grown)
    (parameter_and_comma a1.read a2.read) (λ V g. alike-put (a1.alike V (front-then a2.grown g)) (a2.alike V g)))

-- the lexemes of parameters, or of the parentheses of none
unfoldable pub parameter_symbols : List Node → Option ℕ → List Symbol
parameter_symbols W id = symbols_of_parts (written W) (parameters_or_none id)

pub parameters_again : (W : List Node) → ChildrenFirst 0 W →
    (file : ℕ) (M : List Node) (b : List ℕ) (o2 : List Lexeme) {N N1 : List Node} {i o : List Lexeme} {id : Option ℕ} →
    ParametersRead N i N1 o id → AreOfSource i → Front N1 W →
    MaybeReported ParametersRead W M (laid file b (parameter_symbols W id) o2) o2 id
unfolding parameter_symbols parameters_or_none symbols_of_parts symbols_of_part own_symbols parts_of in_parentheses
    arguments_of lexeme_at shape in_order children laid
parameters_again W first file M b o2 no_parameters src f =
    maybe_reported_of M None front-none no_parameters (λ V g. both_missing)
parameters_again W first file M b o2 (parameters {N2 = N2} {ids = ids} {id = id} {p = p} d1 d2) src f =
    let at : slice_get W (length N2) ≡ Some (Parameters p (ids ++ id ∷ [])) = front-at _ _ f in
    let said0 : whole W (length N2) ≡ a_sign sign_left_parenthesis ∷ arguments_of W (ids ++ id ∷ []) =
    whole_at W _ _ first at in
    let said : whole W (length N2) ≡ a_sign sign_left_parenthesis
    ∷ (followed W ids ++ (whole W id ++ a_sign sign_right_parenthesis ∷ [])) =
    said0 ∙ ap (λ (ss : List Symbol). a_sign sign_left_parenthesis ∷ ss) (arguments_of-put W ids id) in
    let b1 : List ℕ = b ++ printed (a_sign sign_left_parenthesis) in
    let b2 : List ℕ = b1 ++ canonical (followed W ids) in
    let b3 : List ℕ = b2 ++ canonical (whole W id) in
    let t3 : List Lexeme = sign_at sign_right_parenthesis (position_behind file b3) ∷ o2 in
    let t2 : List Lexeme = laid file b2 (whole W id) t3 in
    let t1 : List Lexeme = laid file b1 (followed W ids) t2 in
    let a1 =
    parameters_begun_again W first file M b1 t2 d1 (behind src) (front-then (parameter_front d2) (front-put _ _ f))
    in
    let a2 = parameter_again W first file a1.nodes b2 t3 d2 (parameters_begun_rest d1 (behind src)) (front-put _ _ f) in
    let same : laid file b (parameter_symbols W (Some (length N2))) o2 ≡ sign_at sign_left_parenthesis
    (position_behind file b) ∷ t1 =
    ap (λ (ss : List Symbol). laid file b ss o2) (append-nil (whole W (length N2)) ∙ said) ∙ simp laid-append in
    maybe_reported_moved same (maybe_reported_of (put a2.nodes (Parameters (position_behind file b) (a1.places ++ a2.place ∷ [])))
    (Some (length a2.nodes)) (front-then a1.grown (front-then a2.grown (front-one _))) (parameters a1.read a2.read)
    (λ V g. let all = alike-put (a1.alike V (front-then a2.grown (front-put _ _ g))) (a2.alike V (front-put _ _ g))
    in both_there (alike at (front-at _ _ g) (ap (λ (t : List ℕ). Parameters nowhere t) (counted-same all)) all)))
