-- What is said of a node comes from what is said of the nodes that are its parts.
use Rattle.std.proofs.Common.{◌≡◌, ℕ, ◌+◌, ◌<◌, ◌≤◌, length, reverse, zero, suc, Bool, true, false, nat_lt, List, [], ◌∷◌, ◌++◌, Option, Some, None, slice_get, refl, sym, ap, ◌∙◌, arith, append_assoc, append-nil, zero-add}
use Rattle.std.specs.Prelude.{slice_index_or}
use Rattle.std.proofs.lemmas.Bool.Decides.{nat_tests}
use Rattle.std.proofs.lemmas.Option.{get_or_from_slice_get}
use Rattle.scj_tree.specs.declared.nodes.Node.{Node}
use Rattle.scj_tree.specs.declared.nodes.Node.TheVariants.{Class, Flags, DefineScope, ScopeName, Supers, SuperType, TypeArgument, IntType, BooleanType, ClassType, VoidType, LongType, Field, Method, Constructor, Parameters, Parameter, SuperCall, Block, Empty, Local, LocalWithValue, Assign, ExpressionStatement, If, While, For, Return, Binary, Unary, Cast, Parenthesized, SimpleName, FieldAccess, Call, Element, New, NewArray, Text, Number, True, False, Null, This}
use Rattle.scj_tree.specs.Shape.{children, optional}
use Rattle.scj_tree.specs.Forest.{Forest, AllBelow, ChildrenFirst}
use Rattle.scj_tree.specs.Recursion.{below}
use Rattle.scj_tree.proofs.RecursionLemmas.{by_smaller-is}
use Rattle.scj_show.specs.declared.parts.Part.{Part}
use Rattle.scj_show.specs.declared.parts.Part.TheVariants.{Whole, Bare, Named, Quoted, Word, Sign, Digits}
use Rattle.scj_show.specs.Parts.{maybe, each, each_behind_comma, listed, in_parentheses, word_if_set, sign_if_set, annotation, scope_definition, argument_in_brackets, brackets, extended, implemented, assigned, parameters_or_none, body_or_semicolon, body_with_call, alternative, object_and_dot, class_parts, flag_parts, class_type_parts, field_parts, method_parts, constructor_parts, super_call_parts, block_end, return_parts, call_parts, parts_of, bare_parts}
use Rattle.scj_show.specs.Symbols.{Symbol, a_name, a_text, a_word, a_sign, a_number, Written, nothing, canonical, own_symbols, symbols_of_part, symbols_of_parts, written_node, written, symbols_of, text_of_file}
use Rattle.scj_show.specs.Works.{pending, work, Size, size_of_part, size_of_parts, size_of_node, size}
use Rattle.scj_show.proofs.Printing.{canonical-append, pending-put, pending-turned, work-put, work-turned}

-- ---- the nodes among the parts of a node are its children

ids_of : List Part → List ℕ
ids_of [] = []
ids_of (Whole id ∷ ps) = id ∷ ids_of ps
ids_of (Bare id ∷ ps) = id ∷ ids_of ps
ids_of (Named w ∷ ps) = ids_of ps
ids_of (Quoted w ∷ ps) = ids_of ps
ids_of (Word n ∷ ps) = ids_of ps
ids_of (Sign n ∷ ps) = ids_of ps
ids_of (Digits n ∷ ps) = ids_of ps

ids-append : (ps qs : List Part) → ids_of (ps ++ qs) ≡ ids_of ps ++ ids_of qs
unfolding ids_of
ids-append [] qs = refl
ids-append (Whole id ∷ ps) qs = ap (λ (t : List ℕ). id ∷ t) (ids-append ps qs)
ids-append (Bare id ∷ ps) qs = ap (λ (t : List ℕ). id ∷ t) (ids-append ps qs)
ids-append (Named w ∷ ps) qs = ids-append ps qs
ids-append (Quoted w ∷ ps) qs = ids-append ps qs
ids-append (Word n ∷ ps) qs = ids-append ps qs
ids-append (Sign n ∷ ps) qs = ids-append ps qs
ids-append (Digits n ∷ ps) qs = ids-append ps qs

ids-maybe : (o : Option ℕ) → ids_of (maybe o) ≡ optional o
unfolding ids_of maybe
ids-maybe None = refl
ids-maybe (Some id) = refl

ids-each : (ids : List ℕ) → ids_of (each ids) ≡ ids
unfolding ids_of each
ids-each [] = refl
ids-each (id ∷ ids) = ap (λ (t : List ℕ). id ∷ t) (ids-each ids)

ids-each_behind_comma : (ids : List ℕ) → ids_of (each_behind_comma ids) ≡ ids
unfolding ids_of each_behind_comma
ids-each_behind_comma [] = refl
ids-each_behind_comma (id ∷ ids) = ap (λ (t : List ℕ). id ∷ t) (ids-each_behind_comma ids)

ids-listed : (ids : List ℕ) → ids_of (listed ids) ≡ ids
unfolding ids_of listed
ids-listed [] = refl
ids-listed (id ∷ ids) = ap (λ (t : List ℕ). id ∷ t) (ids-each_behind_comma ids)

ids-in_parentheses : (ids : List ℕ) → ids_of (in_parentheses ids) ≡ ids
unfolding ids_of in_parentheses
ids-in_parentheses ids = ids-append (listed ids) _ ∙ append-nil (ids_of (listed ids)) ∙ ids-listed ids

ids-word_if_set : (b : Bool) (n : ℕ) → ids_of (word_if_set b n) ≡ []
unfolding ids_of word_if_set
ids-word_if_set true n = refl
ids-word_if_set false n = refl

ids-sign_if_set : (b : Bool) (n : ℕ) → ids_of (sign_if_set b n) ≡ []
unfolding ids_of sign_if_set
ids-sign_if_set true n = refl
ids-sign_if_set false n = refl

ids-annotation : (w : List ℕ) (o : Option ℕ) → ids_of (annotation w o) ≡ optional o
unfolding ids_of annotation
ids-annotation w None = refl
ids-annotation w (Some id) = refl

ids-argument_in_brackets : (o : Option ℕ) → ids_of (argument_in_brackets o) ≡ optional o
unfolding ids_of argument_in_brackets
ids-argument_in_brackets None = refl
ids-argument_in_brackets (Some id) = refl

ids-brackets : (b : Bool) → ids_of (brackets b) ≡ []
unfolding ids_of brackets
ids-brackets true = refl
ids-brackets false = refl

ids-extended : (o : Option ℕ) → ids_of (extended o) ≡ optional o
unfolding ids_of extended
ids-extended None = refl
ids-extended (Some id) = refl

ids-implemented : (ids : List ℕ) → ids_of (implemented ids) ≡ ids
unfolding ids_of implemented
ids-implemented [] = refl
ids-implemented (id ∷ ids) = ap (λ (t : List ℕ). id ∷ t) (ids-each_behind_comma ids)

ids-assigned : (o : Option ℕ) → ids_of (assigned o) ≡ optional o
unfolding ids_of assigned
ids-assigned None = refl
ids-assigned (Some id) = refl

ids-parameters_or_none : (o : Option ℕ) → ids_of (parameters_or_none o) ≡ optional o
unfolding ids_of parameters_or_none
ids-parameters_or_none None = refl
ids-parameters_or_none (Some id) = refl

ids-body_or_semicolon : (o : Option ℕ) → ids_of (body_or_semicolon o) ≡ optional o
unfolding ids_of body_or_semicolon
ids-body_or_semicolon None = refl
ids-body_or_semicolon (Some id) = refl

ids-body_with_call : (o : Option ℕ) (body : ℕ) → ids_of (body_with_call o body) ≡ optional o ++ (body ∷ [])
unfolding ids_of body_with_call
ids-body_with_call None body = refl
ids-body_with_call (Some id) body = refl

ids-alternative : (o : Option ℕ) → ids_of (alternative o) ≡ optional o
unfolding ids_of alternative
ids-alternative None = refl
ids-alternative (Some id) = refl

ids-object_and_dot : (o : Option ℕ) → ids_of (object_and_dot o) ≡ optional o
unfolding ids_of object_and_dot
ids-object_and_dot None = refl
ids-object_and_dot (Some id) = refl

parts_below : (n : ℕ) (node : Node) → AllBelow n (children node) → AllBelow n (ids_of (parts_of node))
unfolding ids_of children parts_of class_parts flag_parts class_type_parts field_parts method_parts constructor_parts
    super_call_parts block_end return_parts call_parts scope_definition AllBelow
parts_below n (Class position name flags header members) h = simp (ids-append, ids-maybe, ids-each, append-nil) h
parts_below n (Flags position define_scope scope runs_in is_static is_abstract is_synchronized) h =
    simp (ids-append, ids-maybe, ids-annotation, ids-word_if_set, append-nil) h
parts_below n (DefineScope position first second true) h = (h.1.0, (h.0, tt))
parts_below n (DefineScope position first second false) h = h
parts_below n (ScopeName position name) h = h
parts_below n (Supers position superclass interfaces) h = simp (ids-append, ids-extended, ids-implemented) h
parts_below n (SuperType position name argument) h = simp ids-argument_in_brackets h
parts_below n (TypeArgument position name) h = h
parts_below n (IntType position is_array) h = simp ids-brackets h
parts_below n (BooleanType position is_array) h = simp ids-brackets h
parts_below n (ClassType position name argument is_array) h =
    simp (ids-append, ids-argument_in_brackets, ids-brackets, append-nil) h
parts_below n (VoidType position) h = h
parts_below n (LongType position) h = h
parts_below n (Field position name flags declared_type equals value) h =
    simp (ids-append, ids-maybe, ids-assigned, append-nil) h
parts_below n (Method position name flags result_type parameters body) h =
    simp (ids-append, ids-maybe, ids-parameters_or_none, ids-body_or_semicolon) h
parts_below n (Constructor position name flags parameters super_call body) h =
    simp (ids-append, ids-maybe, ids-parameters_or_none, ids-body_with_call) h
parts_below n (Parameters position list) h = simp ids-in_parentheses h
parts_below n (Parameter position name flags declared_type) h = simp (ids-append, ids-maybe) h
parts_below n (SuperCall position arguments) h = simp (ids-append, ids-in_parentheses, append-nil) h
parts_below n (Block position statements) h = simp (ids-append, ids-each, append-nil) h
parts_below n (Empty position) h = h
parts_below n (Local position name flags declared_type) h = simp (ids-append, ids-maybe) h
parts_below n (LocalWithValue position name_position name flags declared_type value) h = simp (ids-append, ids-maybe) h
parts_below n (Assign position target value) h = h
parts_below n (ExpressionStatement position expression) h = h
parts_below n (If position condition then_part else_part) h = simp ids-alternative h
parts_below n (While position condition body) h = h
parts_below n (For position first condition step body) h = h
parts_below n (Return position value) h = simp (ids-append, ids-maybe, append-nil) h
parts_below n (Binary position operator left right) h = h
parts_below n (Unary position operator operand) h = h
parts_below n (Cast position name_position name operand) h = h
parts_below n (Parenthesized position inner) h = h
parts_below n (SimpleName position name) h = h
parts_below n (FieldAccess position name object) h = h
parts_below n (Call position name object arguments) h = simp (ids-append, ids-object_and_dot, ids-in_parentheses) h
parts_below n (Element position array index) h = h
parts_below n (New position name_position name arguments) h = simp ids-in_parentheses h
parts_below n (NewArray position element length) h = h
parts_below n (Text position text) h = h
parts_below n (Number position value is_negative) h = simp (ids-append, ids-sign_if_set) h
parts_below n (True position) h = h
parts_below n (False position) h = h
parts_below n (Null position) h = h
parts_below n (This position) h = h

bare_below : (n : ℕ) (node : Node) → AllBelow n (children node) → AllBelow n (ids_of (bare_parts node))
unfolding ids_of children bare_parts block_end AllBelow
bare_below n (Block position statements) h = simp (ids-append, ids-each, append-nil) h
bare_below n (Assign position target value) h = h
bare_below n _ h = tt

-- ---- what is said of the nodes below alone

below-is : {A : Type 0} (default : A) (n k : ℕ) (f : ℕ → A) → k < n → below default n f k ≡ f k
below-is default n k f h =
    let t : nat_lt k n ≡ true = grind (arith, nat_tests) in
    rw t refl

symbols_below : (n : ℕ) (w : ℕ → Written) (ps : List Part) → AllBelow n (ids_of ps) →
    symbols_of_parts (below nothing n w) ps ≡ symbols_of_parts w ps
unfolding ids_of AllBelow symbols_of_parts symbols_of_part
symbols_below n w [] h = refl
symbols_below n w (Whole id ∷ ps) h = ap (λ (t : Written). t.whole ++ symbols_of_parts (below nothing n w) ps)
    (below-is nothing n id w h.0) ∙ ap (λ (t : List Symbol). (w id).whole ++ t) (symbols_below n w ps h.1)
symbols_below n w (Bare id ∷ ps) h = ap (λ (t : Written). t.bare ++ symbols_of_parts (below nothing n w) ps)
    (below-is nothing n id w h.0) ∙ ap (λ (t : List Symbol). (w id).bare ++ t) (symbols_below n w ps h.1)
symbols_below n w (Named v ∷ ps) h = ap (λ (t : List Symbol). a_name v ∷ t) (symbols_below n w ps h)
symbols_below n w (Quoted v ∷ ps) h = ap (λ (t : List Symbol). a_text v ∷ t) (symbols_below n w ps h)
symbols_below n w (Word m ∷ ps) h = ap (λ (t : List Symbol). a_word m ∷ t) (symbols_below n w ps h)
symbols_below n w (Sign m ∷ ps) h = ap (λ (t : List Symbol). a_sign m ∷ t) (symbols_below n w ps h)
symbols_below n w (Digits m ∷ ps) h = ap (λ (t : List Symbol). a_number m ∷ t) (symbols_below n w ps h)

abbrev no_size : Size
no_size = record { whole = 0; bare = 0 }

sizes_below : (n : ℕ) (s : ℕ → Size) (ps : List Part) → AllBelow n (ids_of ps) →
    size_of_parts (below no_size n s) ps ≡ size_of_parts s ps
unfolding ids_of AllBelow size_of_parts size_of_part
sizes_below n s [] h = refl
sizes_below n s (Whole id ∷ ps) h = let e : below no_size n s id ≡ s id = below-is no_size n id s h.0 in
    ap (λ (t : Size). (1 + t.whole) + size_of_parts (below no_size n s) ps) e
    ∙ ap (λ (t : ℕ). (1 + (s id).whole) + t) (sizes_below n s ps h.1)
sizes_below n s (Bare id ∷ ps) h = let e : below no_size n s id ≡ s id = below-is no_size n id s h.0 in
    ap (λ (t : Size). (1 + t.bare) + size_of_parts (below no_size n s) ps) e
    ∙ ap (λ (t : ℕ). (1 + (s id).bare) + t) (sizes_below n s ps h.1)
sizes_below n s (Named v ∷ ps) h = ap (λ (t : ℕ). 1 + t) (sizes_below n s ps h)
sizes_below n s (Quoted v ∷ ps) h = ap (λ (t : ℕ). 1 + t) (sizes_below n s ps h)
sizes_below n s (Word m ∷ ps) h = ap (λ (t : ℕ). 1 + t) (sizes_below n s ps h)
sizes_below n s (Sign m ∷ ps) h = ap (λ (t : ℕ). 1 + t) (sizes_below n s ps h)
sizes_below n s (Digits m ∷ ps) h = ap (λ (t : ℕ). 1 + t) (sizes_below n s ps h)

-- ---- at a node of a forest

children_at : (from : ℕ) (nodes : List Node) (k : ℕ) (node : Node) → ChildrenFirst from nodes →
    slice_get nodes k ≡ Some node → AllBelow (from + k) (children node)
unfolding ChildrenFirst
children_at from [] k node h e = absurd (cc)
children_at from (m ∷ nodes) zero node h e =
    let same : m ≡ node = cc in
    let f : from + 0 ≡ from = omega arith in
    rw (f, ← same) h.0
children_at from (m ∷ nodes) (suc k) node h e =
    let f : (from + 1) + k ≡ from + suc k = omega arith in
    rw f at (children_at (from + 1) nodes k node h.1 e)

pub children_below : (nodes : List Node) (k : ℕ) (node : Node) → ChildrenFirst 0 nodes → slice_get nodes k ≡ Some node →
    AllBelow k (children node)
children_below nodes k node h e = rw (zero-add k) at (children_at 0 nodes k node h e)

pub written_at : (nodes : List Node) (id : ℕ) (node : Node) → ChildrenFirst 0 nodes → slice_get nodes id ≡ Some node →
    written nodes id ≡ written_node (written nodes) (Some node)
unfolding written written_node
written_at nodes id node first e =
    let under : AllBelow id (children node) = children_below nodes id node first e in
    let is : written nodes id ≡ written_node (below nothing id (written nodes)) (slice_get nodes id) =
    by_smaller-is nothing (λ (n : ℕ) (sub : ℕ → Written). written_node sub (slice_get nodes n)) id in
    let w : symbols_of_parts (below nothing id (written nodes)) (parts_of node) ≡ symbols_of_parts (written nodes)
    (parts_of node) = symbols_below id (written nodes) (parts_of node) (parts_below id node under) in
    let b : symbols_of_parts (below nothing id (written nodes)) (bare_parts node) ≡ symbols_of_parts (written nodes)
    (bare_parts node) = symbols_below id (written nodes) (bare_parts node) (bare_below id node under) in
    let there : written_node (below nothing id (written nodes)) (slice_get nodes id) ≡ written_node
    (below nothing id (written nodes)) (Some node) = ap (written_node (below nothing id (written nodes))) e in
    let made : (List Symbol → List Symbol → Written) = λ x y. record { whole = own_symbols node ++ x; bare = y } in
    let last : made (symbols_of_parts (below nothing id (written nodes)) (parts_of node))
    (symbols_of_parts (below nothing id (written nodes)) (bare_parts node)) ≡ made
    (symbols_of_parts (written nodes) (parts_of node)) (symbols_of_parts (written nodes) (bare_parts node)) = cc in
    is ∙ there ∙ last

get_behind : (nodes : List Node) (k : ℕ) → length nodes ≤ k → slice_get nodes k ≡ None
get_behind [] k h = refl
get_behind (m ∷ nodes) zero h = absurd (omega (arith, h))
get_behind (m ∷ nodes) (suc k) h = get_behind nodes k (omega (arith, h))

written_behind : (nodes : List Node) (id : ℕ) → length nodes ≤ id → written nodes id ≡ nothing
unfolding written written_node
written_behind nodes id h =
    let is : written nodes id ≡ written_node (below nothing id (written nodes)) (slice_get nodes id) =
    by_smaller-is nothing (λ (n : ℕ) (sub : ℕ → Written). written_node sub (slice_get nodes n)) id in
    is ∙ ap (written_node (below nothing id (written nodes))) (get_behind nodes id h)

pub size_at : (nodes : List Node) (id : ℕ) (node : Node) → ChildrenFirst 0 nodes → slice_get nodes id ≡ Some node →
    size nodes id ≡ size_of_node (size nodes) (Some node)
unfolding size size_of_node
size_at nodes id node first e =
    let under : AllBelow id (children node) = children_below nodes id node first e in
    let is : size nodes id ≡ size_of_node (below no_size id (size nodes)) (slice_get nodes id) =
    by_smaller-is no_size (λ (n : ℕ) (sub : ℕ → Size). size_of_node sub (slice_get nodes n)) id in
    let w : size_of_parts (below no_size id (size nodes)) (parts_of node) ≡ size_of_parts (size nodes) (parts_of node) =
    sizes_below id (size nodes) (parts_of node) (parts_below id node under) in
    let b : size_of_parts (below no_size id (size nodes)) (bare_parts node) ≡ size_of_parts (size nodes)
    (bare_parts node) = sizes_below id (size nodes) (bare_parts node) (bare_below id node under) in
    let there : size_of_node (below no_size id (size nodes)) (slice_get nodes id) ≡ size_of_node
    (below no_size id (size nodes)) (Some node) = ap (size_of_node (below no_size id (size nodes))) e in
    let made : (ℕ → ℕ → Size) = λ x y. record { whole = x; bare = y } in
    let last : made (size_of_parts (below no_size id (size nodes)) (parts_of node))
    (size_of_parts (below no_size id (size nodes)) (bare_parts node)) ≡ made
    (size_of_parts (size nodes) (parts_of node)) (size_of_parts (size nodes) (bare_parts node)) = cc in
    is ∙ there ∙ last

-- ---- what is printed of a node, and what is left to print

pub whole_printed : (nodes : List Node) (id : ℕ) (node : Node) (ps : List Part) (old new : List ℕ) →
    ChildrenFirst 0 nodes → slice_get nodes id ≡ Some node → ps ≡ parts_of node → new ≡ old
    ++ canonical (own_symbols node) → new ++ canonical (symbols_of_parts (written nodes) ps) ≡ old
    ++ canonical (symbols_of_part (written nodes) (Whole id))
unfolding symbols_of_part written_node
whole_printed nodes id node ps old new first e q r =
    let w : canonical (written nodes id).whole ≡ canonical (own_symbols node)
    ++ canonical (symbols_of_parts (written nodes) (parts_of node)) =
    ap (λ (t : Written). canonical t.whole) (written_at nodes id node first e)
    ∙ canonical-append (own_symbols node) (symbols_of_parts (written nodes) (parts_of node)) in
    ap (λ (t : List ℕ). t ++ canonical (symbols_of_parts (written nodes) ps)) r
    ∙ append_assoc old (canonical (own_symbols node)) (canonical (symbols_of_parts (written nodes) ps))
    ∙ ap
    (λ (t : List Part). old ++ (canonical (own_symbols node) ++ canonical (symbols_of_parts (written nodes) t))) q
    ∙ ap (λ (t : List ℕ). old ++ t) (sym w)

pub whole_printed_behind : (nodes : List Node) (id : ℕ) (ps : List Part) → length nodes ≤ id → ps ≡ [] →
    symbols_of_parts (written nodes) ps ≡ symbols_of_part (written nodes) (Whole id)
unfolding symbols_of_part symbols_of_parts
whole_printed_behind nodes id ps h q = ap (symbols_of_parts (written nodes)) q
    ∙ sym (ap (λ (t : Written). t.whole) (written_behind nodes id h))

pub bare_printed : (nodes : List Node) (id : ℕ) (node : Node) (ps : List Part) → ChildrenFirst 0 nodes →
    slice_get nodes id ≡ Some node → ps ≡ bare_parts node → symbols_of_parts (written nodes) ps ≡ symbols_of_part
    (written nodes) (Bare id)
unfolding symbols_of_part written_node
bare_printed nodes id node ps first e q = ap (symbols_of_parts (written nodes)) q
    ∙ sym (ap (λ (t : Written). t.bare) (written_at nodes id node first e))

pub bare_printed_behind : (nodes : List Node) (id : ℕ) (ps : List Part) → length nodes ≤ id → ps ≡ [] →
    symbols_of_parts (written nodes) ps ≡ symbols_of_part (written nodes) (Bare id)
unfolding symbols_of_part symbols_of_parts
bare_printed_behind nodes id ps h q = ap (symbols_of_parts (written nodes)) q
    ∙ sym (ap (λ (t : Written). t.bare) (written_behind nodes id h))

pub whole_smaller : (nodes : List Node) (id : ℕ) (node : Node) (ps : List Part) → ChildrenFirst 0 nodes →
    slice_get nodes id ≡ Some node → ps ≡ parts_of node → work nodes ps < size_of_part (size nodes) (Whole id)
unfolding size_of_part size_of_node work
whole_smaller nodes id node ps first e q =
    let is : (size nodes id).whole ≡ size_of_parts (size nodes) (parts_of node) =
    ap (λ (t : Size). t.whole) (size_at nodes id node first e) in
    let same : size_of_parts (size nodes) ps ≡ size_of_parts (size nodes) (parts_of node) =
    ap (size_of_parts (size nodes)) q in
    omega arith

pub bare_smaller : (nodes : List Node) (id : ℕ) (node : Node) (ps : List Part) → ChildrenFirst 0 nodes →
    slice_get nodes id ≡ Some node → ps ≡ bare_parts node → work nodes ps < size_of_part (size nodes) (Bare id)
unfolding size_of_part size_of_node work
bare_smaller nodes id node ps first e q =
    let is : (size nodes id).bare ≡ size_of_parts (size nodes) (bare_parts node) =
    ap (λ (t : Size). t.bare) (size_at nodes id node first e) in
    let same : size_of_parts (size nodes) ps ≡ size_of_parts (size nodes) (bare_parts node) =
    ap (size_of_parts (size nodes)) q in
    omega arith

-- where nothing is left to print, some part was smaller work
pub none_smaller : (nodes : List Node) (part : Part) (ps : List Part) → ps ≡ [] →
    work nodes ps < size_of_part (size nodes) part
unfolding size_of_part size_of_parts work
none_smaller nodes (Whole id) ps q = let same : size_of_parts (size nodes) ps ≡ 0 = ap (size_of_parts (size nodes)) q in
    omega arith
none_smaller nodes (Bare id) ps q = let same : size_of_parts (size nodes) ps ≡ 0 = ap (size_of_parts (size nodes)) q in
    omega arith
none_smaller nodes (Named w) ps q = let same : size_of_parts (size nodes) ps ≡ 0 = ap (size_of_parts (size nodes)) q in
    omega arith
none_smaller nodes (Quoted w) ps q = let same : size_of_parts (size nodes) ps ≡ 0 = ap (size_of_parts (size nodes)) q in
    omega arith
none_smaller nodes (Word n) ps q = let same : size_of_parts (size nodes) ps ≡ 0 = ap (size_of_parts (size nodes)) q in
    omega arith
none_smaller nodes (Sign n) ps q = let same : size_of_parts (size nodes) ps ≡ 0 = ap (size_of_parts (size nodes)) q in
    omega arith
none_smaller nodes (Digits n) ps q = let same : size_of_parts (size nodes) ps ≡ 0 = ap (size_of_parts (size nodes)) q in
    omega arith

-- a part that is one lexeme
pub lexeme_printed : (w : ℕ → Written) (part : Part) (s : Symbol) (ps : List Part) (old new : List ℕ) →
    symbols_of_part w part ≡ s ∷ [] → ps ≡ [] → new ≡ old ++ canonical (s ∷ []) → new
    ++ canonical (symbols_of_parts w ps) ≡ old ++ canonical (symbols_of_part w part)
unfolding symbols_of_parts canonical
lexeme_printed w part s ps old new is q r = ap (λ (t : List Part). new ++ canonical (symbols_of_parts w t)) q
    ∙ append-nil new ∙ r ∙ ap (λ (t : List Symbol). old ++ canonical t) (sym is)

-- ---- one step of the printing of all that waits

pub step_printed : (nodes : List Node) (popped waiting : List Part) (part : Part) (ps : List Part) (old new : List ℕ) →
    popped ≡ waiting ++ part ∷ [] → new ++ canonical (symbols_of_parts (written nodes) ps) ≡ old
    ++ canonical (symbols_of_part (written nodes) part) → new ++ canonical (pending nodes (waiting ++ reverse ps)) ≡ old
    ++ canonical (pending nodes popped)
step_printed nodes popped waiting part ps old new q r =
    let a : canonical (pending nodes (waiting ++ reverse ps)) ≡ canonical (symbols_of_parts (written nodes) ps)
    ++ canonical (pending nodes waiting) = ap canonical (pending-turned nodes waiting ps)
    ∙ canonical-append (symbols_of_parts (written nodes) ps) (pending nodes waiting) in
    let b : canonical (pending nodes popped) ≡ canonical (symbols_of_part (written nodes) part)
    ++ canonical (pending nodes waiting) = ap (λ (t : List Part). canonical (pending nodes t)) q
    ∙ ap canonical (pending-put nodes waiting part) ∙ canonical-append (symbols_of_part (written nodes) part)
    (pending nodes waiting) in
    ap (λ (t : List ℕ). new ++ t) a
    ∙ sym (append_assoc new (canonical (symbols_of_parts (written nodes) ps)) (canonical (pending nodes waiting)))
    ∙ ap (λ (t : List ℕ). t ++ canonical (pending nodes waiting)) r
    ∙ append_assoc old (canonical (symbols_of_part (written nodes) part)) (canonical (pending nodes waiting))
    ∙ ap (λ (t : List ℕ). old ++ t) (sym b)

pub step_smaller : (nodes : List Node) (popped waiting : List Part) (part : Part) (ps : List Part) → popped ≡ waiting
    ++ part ∷ [] → work nodes ps < size_of_part (size nodes) part →
    work nodes (waiting ++ reverse ps) < work nodes popped
step_smaller nodes popped waiting part ps q h =
    let a = work-turned nodes waiting ps in
    let b : work nodes popped ≡ size_of_part (size nodes) part + work nodes waiting = ap (work nodes) q
    ∙ work-put nodes waiting part in
    omega arith

-- where nothing waits, all is printed
pub all_printed : (nodes : List Node) (waiting : List Part) (text whole : List ℕ) → waiting ≡ [] → text
    ++ canonical (pending nodes waiting) ≡ whole → text ≡ whole
unfolding pending canonical
all_printed nodes waiting text whole none h =
    sym (ap (λ (t : List Part). text ++ canonical (pending nodes t)) none ∙ append-nil text) ∙ h

-- the text of a file is what its classes leave to be printed
pub file_printed : (forest : Forest) (file : ℕ) (ids : List ℕ) (parts waiting : List Part) (text : List ℕ) →
    slice_get forest.files file ≡ Some ids → parts ≡ each ids → waiting ≡ reverse parts →
    text ≡ canonical (pending forest.nodes waiting) → text ≡ text_of_file forest file
unfolding text_of_file symbols_of pending
file_printed forest file ids parts waiting text e p w t =
    let there : slice_index_or forest.files file [] ≡ ids = get_or_from_slice_get forest.files file ids [] e in
    let turned : pending forest.nodes waiting ≡ symbols_of_parts (written forest.nodes) parts =
    ap (pending forest.nodes) w ∙ pending-turned forest.nodes [] parts
    ∙ append-nil (symbols_of_parts (written forest.nodes) parts) in
    t ∙ ap canonical turned ∙ ap (λ (u : List Part). canonical (symbols_of_parts (written forest.nodes) u)) p
    ∙ ap (λ (u : List ℕ). canonical (symbols_of_parts (written forest.nodes) (each u))) (sym there)
