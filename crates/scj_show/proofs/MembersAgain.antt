-- The canonical lexemes of members, classes and files are read as the same.
use Rattle.std.proofs.Common.{append-nil, append_assoc, ◌≡◌, ℕ, true, false, List, [], ◌∷◌, ◌++◌, Option, Some, None, slice_get, length, refl, sym, ap, ◌∙◌}
use Rattle.scj_base.specs.Vocabulary.{word_class, word_false, word_null, word_super, word_true, sign_left_brace, sign_right_brace, sign_left_parenthesis, sign_semicolon, sign_assign, sign_minus}
use Rattle.scj_base.specs.Lex.{position_behind}
use Rattle.scj_tree.specs.declared.nodes.Node.{Node}
use Rattle.scj_tree.specs.declared.nodes.Node.TheVariants.{Class, Field, Method, Constructor, SuperCall, Block, Number, True, False, Null}
use Rattle.scj_tree.specs.Lexemes.{Lexeme, a_name as name_at, a_word as word_at, a_sign as sign_at}
use Rattle.scj_tree.specs.Terminals.{with_flags, flags_number, begins_unary1, is_unary1_start, begins_with_word}
use Rattle.scj_tree.specs.Nodes.{put}
use Rattle.scj_tree.specs.Grammar.{LiteralRead, number_literal, negative_literal, true_literal, false_literal, null_literal, MemberRead, field, field_with_value, bare_method, method, constructor, constructor_with_super, MembersRead, no_member, one_member_more, ClassRead, class, ClassesRead, no_class, one_class_more}
use Rattle.scj_tree.specs.Forest.{ChildrenFirst}
use Rattle.scj_tree.specs.Shape.{children}
use Rattle.scj_show.specs.declared.parts.Part.TheVariants.{Whole, Bare, Named, Word, Sign}
use Rattle.scj_show.specs.Parts.{parts_of, bare_parts, maybe, each, sign_if_set, class_parts, field_parts, method_parts, constructor_parts, super_call_parts, block_end, assigned, parameters_or_none, body_or_semicolon, body_with_call, in_parentheses}
use Rattle.scj_show.specs.Symbols.{Symbol, a_name, a_word, a_sign, a_number, canonical, own_symbols, symbols_of_part, symbols_of_parts, written, symbols_of}
use Rattle.scj_show.specs.Placed.{printed, lexeme_at}
use Rattle.scj_show.specs.Alike.{nowhere, there, counted, shape, in_order, alike, none_alike, one_alike}
use Rattle.scj_show.proofs.Printing.{symbols_of_parts-append}
use Rattle.scj_show.proofs.Again.{Front, front-none, front-one, front-then, front-put, front-at, whole, whole_at, laid, laid-append, arguments_of, each-put, Reported, reported_of, reported_moved, AllAgain, all_again_of, all_moved, alike-put, counted-same, there-same, optional-alike}
use Rattle.scj_show.proofs.ExpressionsAgain.{arguments_front, arguments_again}
use Rattle.scj_show.proofs.HeadersAgain.{type_front, type_again, result_front, result_again}
use Rattle.scj_show.proofs.Sources.{AreOfSource, behind, behind2, behind3}
use Rattle.scj_show.proofs.Rests.{row_rest, result_rest, parameters_rest, header_rest, arguments_rest, members_rest, classes_rest}
use Rattle.scj_show.proofs.FlagsAgain.{flags_again, flags_front, row_front, maybe_symbols}
use Rattle.scj_show.proofs.DeclarationsAgain.{header_front, header_again, parameters_front, parameters_again, parameter_symbols}
use Rattle.scj_show.proofs.AssignmentsAgain.{bare, bare_at}
use Rattle.scj_show.proofs.StatementsAgain.{statements_front, statements_again}

-- ---- reading puts nodes behind the others

pub literal_front : {N N1 : List Node} {i o : List Lexeme} {id : ℕ} → LiteralRead N i N1 o id → Front N N1
literal_front (number_literal h) = front-one _
literal_front negative_literal = front-one _
literal_front true_literal = front-one _
literal_front false_literal = front-one _
literal_front null_literal = front-one _

pub member_front : {N N1 : List Node} {i o : List Lexeme} {id : ℕ} → MemberRead N i N1 o id → Front N N1
member_front (field {N1 = N1} {flags = flags} d t) =
    front-then (row_front d) (front-then (flags_front N1 flags) (front-then (type_front t) (front-one _)))
member_front (field_with_value {N1 = N1} {flags = flags} d t v) =
    front-then (row_front d)
    (front-then (flags_front N1 flags) (front-then (type_front t) (front-then (literal_front v) (front-one _))))
member_front (bare_method {N1 = N1} {flags = flags} d t p) =
    front-then (row_front d)
    (front-then (flags_front N1 flags) (front-then (result_front t) (front-then (parameters_front p) (front-one _))))
member_front (method {N1 = N1} {flags = flags} d t p s) =
    front-then (row_front d)
    (front-then (flags_front N1 flags)
    (front-then (result_front t)
    (front-then (parameters_front p) (front-then (statements_front s) (front-then (front-one _) (front-one _))))))
member_front (constructor {N1 = N1} {flags = flags} d p s) =
    front-then (row_front d)
    (front-then (flags_front N1 flags)
    (front-then (parameters_front p) (front-then (statements_front s) (front-then (front-one _) (front-one _)))))
member_front (constructor_with_super {N1 = N1} {flags = flags} d p a s) =
    front-then (row_front d)
    (front-then (flags_front N1 flags)
    (front-then (parameters_front p)
    (front-then (arguments_front a)
    (front-then (front-one _) (front-then (statements_front s) (front-then (front-one _) (front-one _)))))))

pub members_front : {N N1 : List Node} {i o : List Lexeme} {ids : List ℕ} → MembersRead N i N1 o ids → Front N N1
members_front no_member = front-none
members_front (one_member_more d e) = front-then (members_front d) (member_front e)

pub class_front : {N N1 : List Node} {i o : List Lexeme} {id : ℕ} → ClassRead N i N1 o id → Front N N1
class_front (class {N1 = N1} {flags = flags} d h m) =
    front-then (row_front d)
    (front-then (flags_front N1 flags) (front-then (header_front h) (front-then (members_front m) (front-one _))))

-- ---- members

literal_again : (W : List Node) → ChildrenFirst 0 W →
    (file : ℕ) (M : List Node) (b : List ℕ) (o2 : List Lexeme) {N N1 : List Node} {i o : List Lexeme} {id : ℕ} →
    LiteralRead N i N1 o id → Front N1 W → Reported LiteralRead W M (laid file b (whole W id) o2) o2 id
unfolding symbols_of_parts symbols_of_part own_symbols parts_of sign_if_set lexeme_at shape in_order children laid
literal_again W first file M b o2 (number_literal {N = N} {n = n} {p = p} h) f =
    let at : slice_get W (length N) ≡ Some (Number p n false) = front-at _ _ f in
    let said : whole W (length N) ≡ a_number n ∷ [] = whole_at W _ _ first at in
    reported_moved (ap (λ (ss : List Symbol). laid file b ss o2) said)
    (reported_of (put M (Number (position_behind file b) n false)) (length M) (front-one _) (number_literal h)
    (λ V g. alike at (front-at _ _ g) refl none_alike))
literal_again W first file M b o2 (negative_literal {N = N} {n = n} {p = p}) f =
    let at : slice_get W (length N) ≡ Some (Number p n true) = front-at _ _ f in
    let said : whole W (length N) ≡ a_sign sign_minus ∷ a_number n ∷ [] = whole_at W _ _ first at in
    reported_moved (ap (λ (ss : List Symbol). laid file b ss o2) said)
    (reported_of (put M (Number (position_behind file b) n true)) (length M) (front-one _) (negative_literal)
    (λ V g. alike at (front-at _ _ g) refl none_alike))
literal_again W first file M b o2 (true_literal {N = N} {p = p}) f =
    let at : slice_get W (length N) ≡ Some (True p) = front-at _ _ f in
    let said : whole W (length N) ≡ a_word word_true ∷ [] = whole_at W _ _ first at in
    reported_moved (ap (λ (ss : List Symbol). laid file b ss o2) said)
    (reported_of (put M (True (position_behind file b))) (length M) (front-one _) (true_literal)
    (λ V g. alike at (front-at _ _ g) refl none_alike))
literal_again W first file M b o2 (false_literal {N = N} {p = p}) f =
    let at : slice_get W (length N) ≡ Some (False p) = front-at _ _ f in
    let said : whole W (length N) ≡ a_word word_false ∷ [] = whole_at W _ _ first at in
    reported_moved (ap (λ (ss : List Symbol). laid file b ss o2) said)
    (reported_of (put M (False (position_behind file b))) (length M) (front-one _) (false_literal)
    (λ V g. alike at (front-at _ _ g) refl none_alike))
literal_again W first file M b o2 (null_literal {N = N} {p = p}) f =
    let at : slice_get W (length N) ≡ Some (Null p) = front-at _ _ f in
    let said : whole W (length N) ≡ a_word word_null ∷ [] = whole_at W _ _ first at in
    reported_moved (ap (λ (ss : List Symbol). laid file b ss o2) said)
    (reported_of (put M (Null (position_behind file b))) (length M) (front-one _) (null_literal)
    (λ V g. alike at (front-at _ _ g) refl none_alike))

pub member_again : (W : List Node) → ChildrenFirst 0 W →
    (file : ℕ) (M : List Node) (b : List ℕ) (o2 : List Lexeme) {N N1 : List Node} {i o : List Lexeme} {id : ℕ} →
    MemberRead N i N1 o id → AreOfSource i → Front N1 W → Reported MemberRead W M (laid file b (whole W id) o2) o2 id
unfolding maybe_symbols parameter_symbols arguments_of in_parentheses symbols_of symbols_of_parts symbols_of_part
    own_symbols parts_of bare_parts field_parts method_parts constructor_parts super_call_parts block_end assigned
    body_or_semicolon body_with_call lexeme_at begins_unary1 is_unary1_start begins_with_word shape in_order children
    laid
member_again W first file M b o2 (field {N1 = N1} {N2 = N2} {flags = flags} {t = t} {w = w} {p = p} d0 d1) src f =
    let at : slice_get W (length (N2)) ≡ Some (Field p w (flags_number N1 flags) t None None) = front-at _ _ f in
    let opened : whole W (length N2) ≡ symbols_of_parts (written W)
    (maybe (flags_number N1 flags) ++ (Whole t ∷ Named w ∷ Sign sign_semicolon ∷ [])) = whole_at W _ _ first at in
    let b1 : List ℕ = b ++ canonical (maybe_symbols W (flags_number N1 flags)) in
    let b2 : List ℕ = b1 ++ canonical (whole W t) in
    let b3 : List ℕ = b2 ++ printed (a_name w) in
    let t3 : List Lexeme = sign_at sign_semicolon (position_behind file b3) ∷ o2 in
    let t2 : List Lexeme = name_at w (position_behind file b2) ∷ t3 in
    let t1 : List Lexeme = laid file b1 (whole W t) t2 in
    let t0 : List Lexeme = laid file b (maybe_symbols W (flags_number N1 flags)) t1 in
    let a1 = flags_again false W first file M b t1 d0 src (front-then (type_front d1) (front-put _ _ f)) in
    let a2 = type_again W first file (with_flags a1.nodes a1.flags) b1 t2 d1 (front-put _ _ f) in
    let said : whole W (length (N2)) ≡ maybe_symbols W (flags_number N1 flags)
    ++ (whole W t ++ (a_name w ∷ (a_sign sign_semicolon ∷ ([])))) =
    opened ∙ symbols_of_parts-append (written W) (maybe (flags_number N1 flags))
    (Whole t ∷ Named w ∷ Sign sign_semicolon ∷ []) in
    let same : laid file b (whole W (length (N2))) o2 ≡ t0 = ap (λ (ss : List Symbol). laid file b ss o2) said
    ∙ simp laid-append in
    reported_moved same
    (reported_of (put a2.nodes (Field (position_behind file b2) w (flags_number a1.nodes a1.flags) a2.place None None))
    (length a2.nodes)
    (front-then a1.grown (front-then (flags_front a1.nodes a1.flags) (front-then a2.grown (front-one _))))
    (field a1.read a2.read) (λ V g. let fs = a1.alike V (front-then a2.grown (front-put _ _ g)) in
    alike at (front-at _ _ g) (ap (λ (x : Option ℕ). Field nowhere w x 0 None None) (there-same fs))
    (optional-alike fs (one_alike (a2.alike V (front-put _ _ g)) none_alike))))
member_again W first file M b o2
    (field_with_value {N1 = N1} {N2 = N2} {N3 = N3} {flags = flags} {t = t} {v = v} {w = w} {p = p} {q = q} d0 d1 d2)
    src f =
    let at : slice_get W (length (N3)) ≡ Some (Field p w (flags_number N1 flags) t (Some q) (Some v)) =
    front-at _ _ f in
    let opened : whole W (length N3) ≡ symbols_of_parts (written W)
    (maybe (flags_number N1 flags) ++ (Whole t ∷ Named w ∷ Sign sign_assign ∷ Whole v ∷ Sign sign_semicolon ∷ [])) =
    whole_at W _ _ first at in
    let b1 : List ℕ = b ++ canonical (maybe_symbols W (flags_number N1 flags)) in
    let b2 : List ℕ = b1 ++ canonical (whole W t) in
    let b3 : List ℕ = b2 ++ printed (a_name w) in
    let b4 : List ℕ = b3 ++ printed (a_sign sign_assign) in
    let b5 : List ℕ = b4 ++ canonical (whole W v) in
    let t5 : List Lexeme = sign_at sign_semicolon (position_behind file b5) ∷ o2 in
    let t4 : List Lexeme = laid file b4 (whole W v) t5 in
    let t3 : List Lexeme = sign_at sign_assign (position_behind file b3) ∷ t4 in
    let t2 : List Lexeme = name_at w (position_behind file b2) ∷ t3 in
    let t1 : List Lexeme = laid file b1 (whole W t) t2 in
    let t0 : List Lexeme = laid file b (maybe_symbols W (flags_number N1 flags)) t1 in
    let a1 =
    flags_again false W first file M b t1 d0 src
    (front-then (type_front d1) (front-then (literal_front d2) (front-put _ _ f))) in
    let a2 =
    type_again W first file (with_flags a1.nodes a1.flags) b1 t2 d1
    (front-then (literal_front d2) (front-put _ _ f)) in
    let a3 = literal_again W first file a2.nodes b4 t5 d2 (front-put _ _ f) in
    let said : whole W (length (N3)) ≡ maybe_symbols W (flags_number N1 flags)
    ++ (whole W t ++ (a_name w ∷ (a_sign sign_assign ∷ (whole W v ++ (a_sign sign_semicolon ∷ ([])))))) =
    opened ∙ symbols_of_parts-append (written W) (maybe (flags_number N1 flags))
    (Whole t ∷ Named w ∷ Sign sign_assign ∷ Whole v ∷ Sign sign_semicolon ∷ []) in
    let same : laid file b (whole W (length (N3))) o2 ≡ t0 = ap (λ (ss : List Symbol). laid file b ss o2) said
    ∙ simp laid-append in
    reported_moved same
    (reported_of
    (put a3.nodes
    (Field (position_behind file b2) w (flags_number a1.nodes a1.flags) a2.place (Some (position_behind file b3))
    (Some a3.place))) (length a3.nodes)
    (front-then a1.grown
    (front-then (flags_front a1.nodes a1.flags) (front-then a2.grown (front-then a3.grown (front-one _)))))
    (field_with_value a1.read a2.read a3.read) (λ V g. let g3 = front-put _ _ g in let g2 = front-then a3.grown g3
    in let fs = a1.alike V (front-then a2.grown g2) in
    alike at (front-at _ _ g) (ap (λ (x : Option ℕ). Field nowhere w x 0 None (Some 0)) (there-same fs))
    (optional-alike fs (one_alike (a2.alike V g2) (one_alike (a3.alike V g3) none_alike)))))
member_again W first file M b o2
    (bare_method {N1 = N1} {N2 = N2} {N3 = N3} {flags = flags} {t = t} {ps = ps} {w = w} {p = p} d0 d1 d2) src f =
    let at : slice_get W (length (N3)) ≡ Some (Method p w (flags_number N1 flags) t ps None) = front-at _ _ f in
    let opened : whole W (length N3) ≡ symbols_of_parts (written W)
    (maybe (flags_number N1 flags)
    ++ ((Whole t ∷ Named w ∷ []) ++ (parameters_or_none ps ++ Sign sign_semicolon ∷ []))) = whole_at W _ _ first at
    in
    let split : whole W (length N3) ≡ maybe_symbols W (flags_number N1 flags)
    ++ ((whole W t ++ a_name w ∷ []) ++ (parameter_symbols W ps ++ a_sign sign_semicolon ∷ [])) =
    opened ∙ simp symbols_of_parts-append in
    let b1 : List ℕ = b ++ canonical (maybe_symbols W (flags_number N1 flags)) in
    let b2 : List ℕ = b1 ++ canonical (whole W t) in
    let b3 : List ℕ = b2 ++ printed (a_name w) in
    let b4 : List ℕ = b3 ++ canonical (parameter_symbols W ps) in
    let t4 : List Lexeme = sign_at sign_semicolon (position_behind file b4) ∷ o2 in
    let t3 : List Lexeme = laid file b3 (parameter_symbols W ps) t4 in
    let t2 : List Lexeme = name_at w (position_behind file b2) ∷ t3 in
    let t1 : List Lexeme = laid file b1 (whole W t) t2 in
    let t0 : List Lexeme = laid file b (maybe_symbols W (flags_number N1 flags)) t1 in
    let a1 =
    flags_again false W first file M b t1 d0 src
    (front-then (result_front d1) (front-then (parameters_front d2) (front-put _ _ f))) in
    let a2 =
    result_again W first file (with_flags a1.nodes a1.flags) b1 t2 d1
    (front-then (parameters_front d2) (front-put _ _ f)) in
    let a3 = parameters_again W first file a2.nodes b3 t4 d2 (behind (result_rest d1 (row_rest d0 src)))
    (front-put _ _ f) in
    let said : whole W (length (N3)) ≡ maybe_symbols W (flags_number N1 flags)
    ++ (whole W t ++ (a_name w ∷ (parameter_symbols W ps ++ (a_sign sign_semicolon ∷ ([]))))) =
    split ∙ ap (λ (ss : List Symbol). maybe_symbols W (flags_number N1 flags) ++ ss)
    (append_assoc (whole W t) (a_name w ∷ []) (parameter_symbols W ps ++ a_sign sign_semicolon ∷ [])) in
    let same : laid file b (whole W (length (N3))) o2 ≡ t0 = ap (λ (ss : List Symbol). laid file b ss o2) said
    ∙ simp laid-append in
    reported_moved same
    (reported_of
    (put a3.nodes (Method (position_behind file b2) w (flags_number a1.nodes a1.flags) a2.place a3.place None))
    (length a3.nodes)
    (front-then a1.grown
    (front-then (flags_front a1.nodes a1.flags) (front-then a2.grown (front-then a3.grown (front-one _)))))
    (bare_method a1.read a2.read a3.read) (λ V g. let g3 = front-put _ _ g in let g2 = front-then a3.grown g3 in
    let fs = a1.alike V (front-then a2.grown g2) in let qs = a3.alike V g3 in
    alike at (front-at _ _ g) (ap (λ (x : Option ℕ). Method nowhere w x 0 (there ps) None) (there-same fs)
    ∙ ap (λ (x : Option ℕ). Method nowhere w (there (flags_number a1.nodes a1.flags)) 0 x None) (there-same qs))
    (optional-alike fs (one_alike (a2.alike V g2) (optional-alike qs none_alike)))))
member_again W first file M b o2
    (method {N1 = N1} {N2 = N2} {N3 = N3} {N4 = N4} {flags = flags} {t = t} {ps = ps} {ids = ids} {w = w} {p = p}
    {q = q} d0 d1 d2 d3) src f =
    let at : slice_get W (length (put N4 (Block q ids))) ≡ Some
    (Method p w (flags_number N1 flags) t ps (Some (length N4))) = front-at _ _ f in
    let body : slice_get W (length N4) ≡ Some (Block q ids) = front-at _ _ (front-put _ _ f) in
    let inside : whole W (length N4) ≡ a_sign sign_left_brace
    ∷ symbols_of_parts (written W) (each ids ++ Sign sign_right_brace ∷ []) = whole_at W _ _ first body in
    let block : whole W (length N4) ≡ a_sign sign_left_brace ∷ (symbols_of W ids ++ a_sign sign_right_brace ∷ []) =
    inside ∙ ap (λ (ss : List Symbol). a_sign sign_left_brace ∷ ss)
    (symbols_of_parts-append (written W) (each ids) (Sign sign_right_brace ∷ [])) in
    let opened : whole W (length (put N4 (Block q ids))) ≡ symbols_of_parts (written W)
    (maybe (flags_number N1 flags)
    ++ ((Whole t ∷ Named w ∷ []) ++ (parameters_or_none ps ++ Whole (length N4) ∷ []))) = whole_at W _ _ first at in
    let split : whole W (length (put N4 (Block q ids))) ≡ maybe_symbols W (flags_number N1 flags)
    ++ ((whole W t ++ a_name w ∷ []) ++ (parameter_symbols W ps ++ (whole W (length N4) ++ []))) =
    opened ∙ simp symbols_of_parts-append in
    let parted : whole W (length (put N4 (Block q ids))) ≡ maybe_symbols W (flags_number N1 flags)
    ++ (whole W t ++ (a_name w ∷ (parameter_symbols W ps ++ (whole W (length N4) ++ [])))) =
    split ∙ ap (λ (ss : List Symbol). maybe_symbols W (flags_number N1 flags) ++ ss)
    (append_assoc (whole W t) (a_name w ∷ []) (parameter_symbols W ps ++ (whole W (length N4) ++ []))) in
    let b1 : List ℕ = b ++ canonical (maybe_symbols W (flags_number N1 flags)) in
    let b2 : List ℕ = b1 ++ canonical (whole W t) in
    let b3 : List ℕ = b2 ++ printed (a_name w) in
    let b4 : List ℕ = b3 ++ canonical (parameter_symbols W ps) in
    let b5 : List ℕ = b4 ++ printed (a_sign sign_left_brace) in
    let b6 : List ℕ = b5 ++ canonical (symbols_of W ids) in
    let t6 : List Lexeme = sign_at sign_right_brace (position_behind file b6) ∷ o2 in
    let t5 : List Lexeme = laid file b5 (symbols_of W ids) t6 in
    let t4 : List Lexeme = sign_at sign_left_brace (position_behind file b4) ∷ t5 in
    let t3 : List Lexeme = laid file b3 (parameter_symbols W ps) t4 in
    let t2 : List Lexeme = name_at w (position_behind file b2) ∷ t3 in
    let t1 : List Lexeme = laid file b1 (whole W t) t2 in
    let t0 : List Lexeme = laid file b (maybe_symbols W (flags_number N1 flags)) t1 in
    let f4 = front-put _ _ (front-put _ _ f) in
    let f3 = front-then (statements_front d3) f4 in
    let f2 = front-then (parameters_front d2) f3 in
    let a1 = flags_again false W first file M b t1 d0 src (front-then (result_front d1) f2) in
    let a2 = result_again W first file (with_flags a1.nodes a1.flags) b1 t2 d1 f2 in
    let a3 = parameters_again W first file a2.nodes b3 t4 d2 (behind (result_rest d1 (row_rest d0 src))) f3 in
    let a4 =
    statements_again W first file a3.nodes b5 t6 d3
    (behind (parameters_rest d2 (behind (result_rest d1 (row_rest d0 src))))) f4 (λ c. refl) in
    let M4 : List Node = put a4.nodes (Block (position_behind file b4) a4.places) in
    let said : whole W (length (put N4 (Block q ids))) ≡ maybe_symbols W (flags_number N1 flags)
    ++ (whole W t
    ++ (a_name w
    ∷ (parameter_symbols W ps
    ++ (a_sign sign_left_brace ∷ (symbols_of W ids ++ (a_sign sign_right_brace ∷ ([]))))))) = parted
    ∙ ap (λ (ss : List Symbol). maybe_symbols W (flags_number N1 flags)
    ++ (whole W t ++ (a_name w ∷ (parameter_symbols W ps ++ ss)))) (append-nil (whole W (length N4)) ∙ block) in
    let same : laid file b (whole W (length (put N4 (Block q ids)))) o2 ≡ t0 =
    ap (λ (ss : List Symbol). laid file b ss o2) said ∙ simp laid-append in
    reported_moved same
    (reported_of
    (put M4 (Method (position_behind file b2) w (flags_number a1.nodes a1.flags) a2.place a3.place
    (Some (length a4.nodes)))) (length M4)
    (front-then a1.grown
    (front-then (flags_front a1.nodes a1.flags)
    (front-then a2.grown (front-then a3.grown (front-then a4.grown (front-then (front-one _) (front-one _)))))))
    (method a1.read a2.read a3.read a4.read) (λ V g. let gb = front-put _ _ g in let g4 = front-put _ _ gb in
    let g3 = front-then a4.grown g4 in let g2 = front-then a3.grown g3 in let fs =
    a1.alike V (front-then a2.grown g2) in let qs = a3.alike V g3 in let ss = a4.alike V g4 in
    alike at (front-at _ _ g) (ap (λ (x : Option ℕ). Method nowhere w x 0 (there ps) (Some 0)) (there-same fs)
    ∙ ap (λ (x : Option ℕ). Method nowhere w (there (flags_number a1.nodes a1.flags)) 0 x (Some 0)) (there-same qs))
    (optional-alike fs
    (one_alike (a2.alike V g2)
    (optional-alike qs
    (one_alike (alike body (front-at _ _ gb) (ap (λ (x : List ℕ). Block nowhere x) (counted-same ss)) ss)
    none_alike))))))
member_again W first file M b o2
    (constructor {N1 = N1} {N2 = N2} {N3 = N3} {flags = flags} {ps = ps} {ids = ids} {w = w} {p = p} {q = q} d0 d2 d3)
    src f =
    let at : slice_get W (length (put N3 (Block q ids))) ≡ Some
    (Constructor p w (flags_number N1 flags) ps None (length N3)) = front-at _ _ f in
    let body : slice_get W (length N3) ≡ Some (Block q ids) = front-at _ _ (front-put _ _ f) in
    let inside : whole W (length N3) ≡ a_sign sign_left_brace
    ∷ symbols_of_parts (written W) (each ids ++ Sign sign_right_brace ∷ []) = whole_at W _ _ first body in
    let block : whole W (length N3) ≡ a_sign sign_left_brace ∷ (symbols_of W ids ++ a_sign sign_right_brace ∷ []) =
    inside ∙ ap (λ (ss : List Symbol). a_sign sign_left_brace ∷ ss)
    (symbols_of_parts-append (written W) (each ids) (Sign sign_right_brace ∷ [])) in
    let opened : whole W (length (put N3 (Block q ids))) ≡ symbols_of_parts (written W)
    (maybe (flags_number N1 flags) ++ ((Named w ∷ []) ++ (parameters_or_none ps ++ Whole (length N3) ∷ []))) =
    whole_at W _ _ first at in
    let parted : whole W (length (put N3 (Block q ids))) ≡ maybe_symbols W (flags_number N1 flags)
    ++ (a_name w ∷ (parameter_symbols W ps ++ (whole W (length N3) ++ []))) = opened ∙ simp symbols_of_parts-append
    in
    let b1 : List ℕ = b ++ canonical (maybe_symbols W (flags_number N1 flags)) in
    let b2 : List ℕ = b1 ++ printed (a_name w) in
    let b3 : List ℕ = b2 ++ canonical (parameter_symbols W ps) in
    let b4 : List ℕ = b3 ++ printed (a_sign sign_left_brace) in
    let b5 : List ℕ = b4 ++ canonical (symbols_of W ids) in
    let t5 : List Lexeme = sign_at sign_right_brace (position_behind file b5) ∷ o2 in
    let t4 : List Lexeme = laid file b4 (symbols_of W ids) t5 in
    let t3 : List Lexeme = sign_at sign_left_brace (position_behind file b3) ∷ t4 in
    let t2 : List Lexeme = laid file b2 (parameter_symbols W ps) t3 in
    let t1 : List Lexeme = name_at w (position_behind file b1) ∷ t2 in
    let t0 : List Lexeme = laid file b (maybe_symbols W (flags_number N1 flags)) t1 in
    let f4 = front-put _ _ (front-put _ _ f) in
    let f3 = front-then (statements_front d3) f4 in
    let a1 = flags_again false W first file M b t1 d0 src (front-then (parameters_front d2) f3) in
    let a3 = parameters_again W first file (with_flags a1.nodes a1.flags) b2 t3 d2 (behind (row_rest d0 src)) f3 in
    let a4 = statements_again W first file a3.nodes b4 t5 d3 (behind (parameters_rest d2 (behind (row_rest d0 src)))) f4
    (λ c. refl) in
    let M4 : List Node = put a4.nodes (Block (position_behind file b3) a4.places) in
    let said : whole W (length (put N3 (Block q ids))) ≡ maybe_symbols W (flags_number N1 flags)
    ++ (a_name w
    ∷ (parameter_symbols W ps
    ++ (a_sign sign_left_brace ∷ (symbols_of W ids ++ (a_sign sign_right_brace ∷ ([])))))) = parted
    ∙ ap (λ (ss : List Symbol). maybe_symbols W (flags_number N1 flags)
    ++ (a_name w ∷ (parameter_symbols W ps ++ ss))) (append-nil (whole W (length N3)) ∙ block) in
    let same : laid file b (whole W (length (put N3 (Block q ids)))) o2 ≡ t0 =
    ap (λ (ss : List Symbol). laid file b ss o2) said ∙ simp laid-append in
    reported_moved same
    (reported_of
    (put M4 (Constructor (position_behind file b1) w (flags_number a1.nodes a1.flags) a3.place None (length a4.nodes)))
    (length M4)
    (front-then a1.grown
    (front-then (flags_front a1.nodes a1.flags)
    (front-then a3.grown (front-then a4.grown (front-then (front-one _) (front-one _))))))
    (constructor a1.read a3.read a4.read) (λ V g. let gb = front-put _ _ g in let g4 = front-put _ _ gb in
    let g3 = front-then a4.grown g4 in let fs = a1.alike V (front-then a3.grown g3) in let qs = a3.alike V g3 in
    let ss = a4.alike V g4 in
    alike at (front-at _ _ g) (ap (λ (x : Option ℕ). Constructor nowhere w x (there ps) None 0) (there-same fs)
    ∙ ap (λ (x : Option ℕ). Constructor nowhere w (there (flags_number a1.nodes a1.flags)) x None 0)
    (there-same qs))
    (optional-alike fs
    (optional-alike qs
    (one_alike (alike body (front-at _ _ gb) (ap (λ (x : List ℕ). Block nowhere x) (counted-same ss)) ss)
    none_alike)))))
member_again W first file M b o2
    (constructor_with_super {N1 = N1} {N2 = N2} {N3 = N3} {N4 = N4} {flags = flags} {ps = ps} {arguments = args}
    {ids = ids} {w = w} {p = p} {q = q} {s = s} d0 d2 d4 d3) src f =
    let at : slice_get W (length (put N4 (Block q ids))) ≡ Some
    (Constructor p w (flags_number N1 flags) ps (Some (length N3)) (length N4)) = front-at _ _ f in
    let body : slice_get W (length N4) ≡ Some (Block q ids) = front-at _ _ (front-put _ _ f) in
    let at_call : slice_get W (length N3) ≡ Some (SuperCall s args) =
    front-at _ _ (front-then (statements_front d3) (front-put _ _ (front-put _ _ f))) in
    let call0 : whole W (length N3) ≡ symbols_of_parts (written W)
    ((Word word_super ∷ []) ++ (in_parentheses args ++ Sign sign_semicolon ∷ [])) = whole_at W _ _ first at_call in
    let call : whole W (length N3) ≡ a_word word_super ∷ a_sign sign_left_parenthesis
    ∷ (arguments_of W args ++ a_sign sign_semicolon ∷ []) =
    call0 ∙ ap (λ (ss : List Symbol). a_word word_super ∷ ss)
    (symbols_of_parts-append (written W) (in_parentheses args) (Sign sign_semicolon ∷ [])) in
    let rest0 : bare W (length N4) ≡ symbols_of_parts (written W) (each ids ++ Sign sign_right_brace ∷ []) =
    bare_at W _ _ first body in
    let rest : bare W (length N4) ≡ symbols_of W ids ++ a_sign sign_right_brace ∷ [] =
    rest0 ∙ symbols_of_parts-append (written W) (each ids) (Sign sign_right_brace ∷ []) in
    let opened : whole W (length (put N4 (Block q ids))) ≡ symbols_of_parts (written W)
    (maybe (flags_number N1 flags)
    ++ ((Named w ∷ [])
    ++ (parameters_or_none ps ++ (Sign sign_left_brace ∷ Whole (length N3) ∷ Bare (length N4) ∷ [])))) = whole_at W
    _ _ first at in
    let parted : whole W (length (put N4 (Block q ids))) ≡ maybe_symbols W (flags_number N1 flags)
    ++ (a_name w
    ∷ (parameter_symbols W ps ++ (a_sign sign_left_brace ∷ (whole W (length N3) ++ (bare W (length N4) ++ []))))) =
    opened ∙ simp symbols_of_parts-append in
    let b1 : List ℕ = b ++ canonical (maybe_symbols W (flags_number N1 flags)) in
    let b2 : List ℕ = b1 ++ printed (a_name w) in
    let b3 : List ℕ = b2 ++ canonical (parameter_symbols W ps) in
    let b4 : List ℕ = b3 ++ printed (a_sign sign_left_brace) in
    let b5 : List ℕ = b4 ++ printed (a_word word_super) in
    let b6 : List ℕ = b5 ++ printed (a_sign sign_left_parenthesis) in
    let b7 : List ℕ = b6 ++ canonical (arguments_of W args) in
    let b8 : List ℕ = b7 ++ printed (a_sign sign_semicolon) in
    let b9 : List ℕ = b8 ++ canonical (symbols_of W ids) in
    let t9 : List Lexeme = sign_at sign_right_brace (position_behind file b9) ∷ o2 in
    let t8 : List Lexeme = laid file b8 (symbols_of W ids) t9 in
    let t7 : List Lexeme = sign_at sign_semicolon (position_behind file b7) ∷ t8 in
    let t6 : List Lexeme = laid file b6 (arguments_of W args) t7 in
    let t5 : List Lexeme = sign_at sign_left_parenthesis (position_behind file b5) ∷ t6 in
    let t4 : List Lexeme = word_at word_super (position_behind file b4) ∷ t5 in
    let t3 : List Lexeme = sign_at sign_left_brace (position_behind file b3) ∷ t4 in
    let t2 : List Lexeme = laid file b2 (parameter_symbols W ps) t3 in
    let t1 : List Lexeme = name_at w (position_behind file b1) ∷ t2 in
    let t0 : List Lexeme = laid file b (maybe_symbols W (flags_number N1 flags)) t1 in
    let f4 = front-put _ _ (front-put _ _ f) in
    let fc = front-then (statements_front d3) f4 in
    let fa = front-put _ _ fc in
    let f3 = front-then (arguments_front d4) fa in
    let a1 = flags_again false W first file M b t1 d0 src (front-then (parameters_front d2) f3) in
    let a3 = parameters_again W first file (with_flags a1.nodes a1.flags) b2 t3 d2 (behind (row_rest d0 src)) f3 in
    let a5 = arguments_again W first file a3.nodes b6 t7 d4 fa (λ c. c) in
    let M5 : List Node = put a5.nodes (SuperCall (position_behind file b4) a5.places) in
    let a4 =
    statements_again W first file M5 b8 t9 d3
    (behind (arguments_rest d4 (behind3 (parameters_rest d2 (behind (row_rest d0 src)))))) f4 (λ c. refl) in
    let M4 : List Node = put a4.nodes (Block (position_behind file b3) a4.places) in
    let said : whole W (length (put N4 (Block q ids))) ≡ maybe_symbols W (flags_number N1 flags)
    ++ (a_name w
    ∷ (parameter_symbols W ps
    ++ (a_sign sign_left_brace
    ∷ (a_word word_super
    ∷ (a_sign sign_left_parenthesis
    ∷ (arguments_of W args
    ++ (a_sign sign_semicolon ∷ (symbols_of W ids ++ (a_sign sign_right_brace ∷ ([])))))))))) = parted
    ∙ ap (λ (ss : List Symbol). maybe_symbols W (flags_number N1 flags)
    ++ (a_name w ∷ (parameter_symbols W ps ++ (a_sign sign_left_brace ∷ (ss ++ (bare W (length N4) ++ [])))))) call
    ∙ ap (λ (ss : List Symbol). maybe_symbols W (flags_number N1 flags)
    ++ (a_name w
    ∷ (parameter_symbols W ps ++ (a_sign sign_left_brace ∷ a_word word_super ∷ a_sign sign_left_parenthesis ∷ ss))))
    (append_assoc (arguments_of W args) (a_sign sign_semicolon ∷ []) _
    ∙ ap (λ (ss : List Symbol). arguments_of W args ++ (a_sign sign_semicolon ∷ ss))
    (append-nil (bare W (length N4)) ∙ rest)) in
    let same : laid file b (whole W (length (put N4 (Block q ids)))) o2 ≡ t0 =
    ap (λ (ss : List Symbol). laid file b ss o2) said ∙ simp laid-append in
    reported_moved same
    (reported_of
    (put M4 (Constructor (position_behind file b1) w (flags_number a1.nodes a1.flags) a3.place (Some (length a5.nodes))
    (length a4.nodes))) (length M4)
    (front-then a1.grown
    (front-then (flags_front a1.nodes a1.flags)
    (front-then a3.grown
    (front-then a5.grown
    (front-then (front-one _) (front-then a4.grown (front-then (front-one _) (front-one _))))))))
    (constructor_with_super a1.read a3.read a5.read a4.read) (λ V g. let gb = front-put _ _ g in
    let g4 = front-put _ _ gb in let gc = front-then a4.grown g4 in let g5 = front-put _ _ gc in let g3 =
    front-then a5.grown g5 in let fs = a1.alike V (front-then a3.grown g3) in let qs = a3.alike V g3 in let ss =
    a4.alike V g4 in let rs = a5.alike V g5 in
    alike at (front-at _ _ g) (ap (λ (x : Option ℕ). Constructor nowhere w x (there ps) (Some 0) 0) (there-same fs)
    ∙ ap (λ (x : Option ℕ). Constructor nowhere w (there (flags_number a1.nodes a1.flags)) x (Some 0) 0)
    (there-same qs))
    (optional-alike fs
    (optional-alike qs
    (one_alike (alike at_call (front-at _ _ gc) (ap (λ (x : List ℕ). SuperCall nowhere x) (counted-same rs)) rs)
    (one_alike (alike body (front-at _ _ gb) (ap (λ (x : List ℕ). Block nowhere x) (counted-same ss)) ss)
    none_alike))))))

pub members_again : (W : List Node) → ChildrenFirst 0 W →
    (file : ℕ) (M : List Node) (b : List ℕ) (o2 : List Lexeme) {N N1 : List Node} {i o : List Lexeme} {ids : List ℕ} →
    MembersRead N i N1 o ids → AreOfSource i → Front N1 W →
    AllAgain MembersRead W M (laid file b (symbols_of W ids) o2) o2 ids
unfolding symbols_of each symbols_of_parts laid
members_again W first file M b o2 no_member src f = all_again_of M [] front-none no_member (λ V g. none_alike)
members_again W first file M b o2 (one_member_more {ids = ids} {id = id} d1 d2) src f =
    let b1 : List ℕ = b ++ canonical (symbols_of W ids) in
    let t1 : List Lexeme = laid file b1 (whole W id) o2 in
    let a1 = members_again W first file M b t1 d1 src (front-then (member_front d2) f) in
    let a2 = member_again W first file a1.nodes b1 o2 d2 (members_rest d1 src) f in
    let same : laid file b (symbols_of W (ids ++ id ∷ [])) o2 ≡ laid file b (symbols_of W ids) t1 =
    ap (λ (ss : List Symbol). laid file b ss o2) (each-put W ids id)
    ∙ laid-append file b (symbols_of W ids) (whole W id) o2 in
    all_moved same
    (all_again_of a2.nodes (a1.places ++ a2.place ∷ []) (front-then a1.grown a2.grown)
    (one_member_more a1.read a2.read) (λ V g. alike-put (a1.alike V (front-then a2.grown g)) (a2.alike V g)))

-- ---- classes

pub class_again : (W : List Node) → ChildrenFirst 0 W →
    (file : ℕ) (M : List Node) (b : List ℕ) (o2 : List Lexeme) {N N1 : List Node} {i o : List Lexeme} {id : ℕ} →
    ClassRead N i N1 o id → AreOfSource i → Front N1 W → Reported ClassRead W M (laid file b (whole W id) o2) o2 id
unfolding maybe_symbols symbols_of symbols_of_parts symbols_of_part own_symbols parts_of class_parts lexeme_at shape
    in_order children laid
class_again W first file M b o2
    (class {N1 = N1} {N2 = N2} {N3 = N3} {flags = flags} {header = header} {ids = ids} {w = w} {p = p} d0 d1 d2) src f =
    let at : slice_get W (length (N3)) ≡ Some (Class p w (flags_number N1 flags) header ids) = front-at _ _ f in
    let opened : whole W (length N3) ≡ symbols_of_parts (written W)
    (maybe (flags_number N1 flags)
    ++ ((Word word_class ∷ Named w ∷ [])
    ++ (maybe header ++ ((Sign sign_left_brace ∷ []) ++ (each ids ++ Sign sign_right_brace ∷ []))))) = whole_at W _
    _ first at in
    let parted : whole W (length N3) ≡ maybe_symbols W (flags_number N1 flags)
    ++ (a_word word_class ∷ a_name w
    ∷ (maybe_symbols W header ++ (a_sign sign_left_brace ∷ (symbols_of W ids ++ a_sign sign_right_brace ∷ [])))) =
    opened ∙ simp symbols_of_parts-append in
    let b1 : List ℕ = b ++ canonical (maybe_symbols W (flags_number N1 flags)) in
    let b2 : List ℕ = b1 ++ printed (a_word word_class) in
    let b3 : List ℕ = b2 ++ printed (a_name w) in
    let b4 : List ℕ = b3 ++ canonical ((maybe_symbols W header ++ a_sign sign_left_brace ∷ [])) in
    let b5 : List ℕ = b4 ++ canonical (symbols_of W ids) in
    let t5 : List Lexeme = sign_at sign_right_brace (position_behind file b5) ∷ o2 in
    let t4 : List Lexeme = laid file b4 (symbols_of W ids) t5 in
    let t3 : List Lexeme = laid file b3 ((maybe_symbols W header ++ a_sign sign_left_brace ∷ [])) t4 in
    let t2 : List Lexeme = name_at w (position_behind file b2) ∷ t3 in
    let t1 : List Lexeme = word_at word_class (position_behind file b1) ∷ t2 in
    let t0 : List Lexeme = laid file b (maybe_symbols W (flags_number N1 flags)) t1 in
    let a1 =
    flags_again false W first file M b t1 d0 src
    (front-then (header_front d1) (front-then (members_front d2) (front-put _ _ f))) in
    let a2 =
    header_again W first file (with_flags a1.nodes a1.flags) b3 t4 d1
    (front-then (members_front d2) (front-put _ _ f)) in
    let a3 = members_again W first file a2.nodes b4 t5 d2 (header_rest d1 (behind2 (row_rest d0 src))) (front-put _ _ f)
    in
    let said : whole W (length (N3)) ≡ maybe_symbols W (flags_number N1 flags)
    ++ (a_word word_class
    ∷ (a_name w
    ∷ ((maybe_symbols W header ++ a_sign sign_left_brace ∷ [])
    ++ (symbols_of W ids ++ (a_sign sign_right_brace ∷ ([])))))) = parted
    ∙ ap (λ (ss : List Symbol). maybe_symbols W (flags_number N1 flags) ++ (a_word word_class ∷ a_name w ∷ ss))
    (sym
    (append_assoc (maybe_symbols W header) (a_sign sign_left_brace ∷ [])
    (symbols_of W ids ++ a_sign sign_right_brace ∷ []))) in
    let opening : laid file b (maybe_symbols W (flags_number N1 flags)
    ++ (a_word word_class ∷ a_name w
    ∷ ((maybe_symbols W header ++ a_sign sign_left_brace ∷ [])
    ++ (symbols_of W ids ++ a_sign sign_right_brace ∷ [])))) o2 ≡ laid file b
    (maybe_symbols W (flags_number N1 flags)) (word_at word_class (position_behind file b1)
    ∷ name_at w (position_behind file b2)
    ∷ laid file b3 ((maybe_symbols W header ++ a_sign sign_left_brace ∷ [])
    ++ (symbols_of W ids ++ a_sign sign_right_brace ∷ [])) o2) = laid-append file b
    (maybe_symbols W (flags_number N1 flags)) _ o2 in
    let same : laid file b (whole W (length (N3))) o2 ≡ t0 = ap (λ (ss : List Symbol). laid file b ss o2) said ∙ opening
    ∙ ap
    (λ (x : List Lexeme). laid file b (maybe_symbols W (flags_number N1 flags))
    (word_at word_class (position_behind file b1) ∷ name_at w (position_behind file b2) ∷ x))
    (laid-append file b3 (maybe_symbols W header ++ a_sign sign_left_brace ∷ [])
    (symbols_of W ids ++ a_sign sign_right_brace ∷ []) o2
    ∙ ap (λ (x : List Lexeme). laid file b3 (maybe_symbols W header ++ a_sign sign_left_brace ∷ []) x)
    (laid-append file b4 (symbols_of W ids) (a_sign sign_right_brace ∷ []) o2)) in
    reported_moved same
    (reported_of (put a3.nodes (Class (position_behind file b2) w (flags_number a1.nodes a1.flags) a2.place a3.places))
    (length a3.nodes)
    (front-then a1.grown
    (front-then (flags_front a1.nodes a1.flags) (front-then a2.grown (front-then a3.grown (front-one _)))))
    (class a1.read a2.read a3.read) (λ V g. let g3 = front-put _ _ g in let g2 = front-then a3.grown g3 in
    let fs = a1.alike V (front-then a2.grown g2) in let hs = a2.alike V g2 in let ms = a3.alike V g3 in
    alike at (front-at _ _ g) (ap (λ (x : Option ℕ). Class nowhere w x (there header) (counted ids)) (there-same fs)
    ∙ ap (λ (x : Option ℕ). Class nowhere w (there (flags_number a1.nodes a1.flags)) x (counted ids))
    (there-same hs)
    ∙ ap (λ (x : List ℕ). Class nowhere w (there (flags_number a1.nodes a1.flags)) (there a2.place) x)
    (counted-same ms)) (optional-alike fs (optional-alike hs ms))))

pub classes_again : (W : List Node) → ChildrenFirst 0 W →
    (file : ℕ) (M : List Node) (b : List ℕ) (o2 : List Lexeme) {N N1 : List Node} {i o : List Lexeme} {ids : List ℕ} →
    ClassesRead N i N1 o ids → AreOfSource i → Front N1 W →
    AllAgain ClassesRead W M (laid file b (symbols_of W ids) o2) o2 ids
unfolding symbols_of each symbols_of_parts laid
classes_again W first file M b o2 no_class src f = all_again_of M [] front-none no_class (λ V g. none_alike)
classes_again W first file M b o2 (one_class_more {ids = ids} {id = id} d1 d2) src f =
    let b1 : List ℕ = b ++ canonical (symbols_of W ids) in
    let t1 : List Lexeme = laid file b1 (whole W id) o2 in
    let a1 = classes_again W first file M b t1 d1 src (front-then (class_front d2) f) in
    let a2 = class_again W first file a1.nodes b1 o2 d2 (classes_rest d1 src) f in
    let same : laid file b (symbols_of W (ids ++ id ∷ [])) o2 ≡ laid file b (symbols_of W ids) t1 =
    ap (λ (ss : List Symbol). laid file b ss o2) (each-put W ids id)
    ∙ laid-append file b (symbols_of W ids) (whole W id) o2 in
    all_moved same
    (all_again_of a2.nodes (a1.places ++ a2.place ∷ []) (front-then a1.grown a2.grown)
    (one_class_more a1.read a2.read) (λ V g. alike-put (a1.alike V (front-then a2.grown g)) (a2.alike V g)))
