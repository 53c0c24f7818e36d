-- Canonical lexemes laid behind bytes of a file, and what it means that they are read as a tree that is the same.
use Rattle.std.proofs.Common.{◌≡◌, ℕ, Bool, false, ◌==◌, List, [], ◌∷◌, ◌++◌, Option, Some, None, slice_get, length, refl, sym, ap, subst, ◌∙◌, append_assoc, append-nil}
use Rattle.scj_base.specs.Vocabulary.{word_implements, sign_right_parenthesis, sign_comma}
use Rattle.scj_base.specs.declared.positions.Position.{Position}
use Rattle.scj_base.specs.Lex.{position_behind}
use Rattle.scj_tree.specs.declared.nodes.Node.{Node}
use Rattle.scj_tree.specs.declared.parsed_parts.PostKind.{PostKind}
use Rattle.scj_tree.specs.Lexemes.{Lexeme, a_name as name_at, a_word as word_at, a_number as number_at, a_text as text_at, a_sign as sign_at, the_end}
use Rattle.scj_tree.specs.Terminals.{closes_name, begins_unary1, is_unary1_start, begins_with_minimum, is_minimum}
use Rattle.scj_tree.specs.Nodes.{put}
use Rattle.scj_tree.specs.Expressions.{PostRead}
use Rattle.scj_tree.specs.Forest.{ChildrenFirst}
use Rattle.scj_tree.specs.Shape.{optional}
use Rattle.scj_show.specs.declared.parts.Part.{Part}
use Rattle.scj_show.specs.declared.parts.Part.TheVariants.{Sign}
use Rattle.scj_show.specs.Parts.{parts_of, each, listed, each_behind_comma, implemented}
use Rattle.scj_show.specs.Symbols.{Symbol, a_name, a_text, a_word, a_sign, a_number, Written, canonical, own_symbols, symbols_of_part, symbols_of_parts, written_node, written, symbols_of}
use Rattle.scj_show.specs.Placed.{printed, lexeme_at}
use Rattle.scj_show.specs.Alike.{counted, there, Alike, AllAlike, none_alike, one_alike}
use Rattle.scj_show.proofs.Unfolding.{written_at}

-- ---- nodes behind others

-- the nodes M come first among the nodes N
pub record Front (M N : List Node) : Type 0 where
  pub rest : List Node
  pub whole : N ≡ M ++ rest

pub front-none : {N : List Node} → Front N N
front-none {N} = record { rest = []; whole = sym (append-nil N) }

pub front-one : {N : List Node} (node : Node) → Front N (put N node)
front-one node = record { rest = node ∷ []; whole = refl }

pub front-then : {M N V : List Node} → Front M N → Front N V → Front M V
front-then {M} {N} {V} f g =
    record {
      rest = f.rest ++ g.rest;
      whole = g.whole ∙ ap (λ (t : List Node). t ++ g.rest) f.whole
          ∙ append_assoc M f.rest g.rest;
    }

pub front-put : {V : List Node} (N : List Node) (node : Node) → Front (put N node) V → Front N V
front-put N node f = front-then (front-one node) f

get-middle : (N : List Node) (node : Node) (more : List Node) →
    slice_get ((N ++ node ∷ []) ++ more) (length N) ≡ Some node
get-middle [] node more = refl
get-middle (n ∷ N) node more = get-middle N node more

pub front-at : {V : List Node} (N : List Node) (node : Node) → Front (put N node) V → slice_get V (length N) ≡ Some node
front-at N node f = ap (λ (t : List Node). slice_get t (length N)) f.whole ∙ get-middle N node f.rest

-- ---- the lexemes of nodes

abbrev pub whole : List Node → ℕ → List Symbol
whole W id = (written W id).whole

pub whole_at : (W : List Node) (id : ℕ) (node : Node) → ChildrenFirst 0 W → slice_get W id ≡ Some node →
    whole W id ≡ own_symbols node ++ symbols_of_parts (written W) (parts_of node)
unfolding written_node
whole_at W id node first e = ap (λ (t : Written). t.whole) (written_at W id node first e)

-- nodes with a comma behind each
unfoldable pub followed : List Node → List ℕ → List Symbol
followed W [] = []
followed W (id ∷ ids) = (whole W id ++ a_sign sign_comma ∷ []) ++ followed W ids

pub followed-put : (W : List Node) (ids : List ℕ) (id : ℕ) → followed W (ids ++ id ∷ []) ≡ followed W ids
    ++ (whole W id ++ a_sign sign_comma ∷ [])
unfolding followed
followed-put W [] id = append-nil (whole W id ++ a_sign sign_comma ∷ [])
followed-put W (x ∷ ids) id = ap (λ (t : List Symbol). (whole W x ++ a_sign sign_comma ∷ []) ++ t)
    (followed-put W ids id)
    ∙ sym (append_assoc (whole W x ++ a_sign sign_comma ∷ []) (followed W ids) (whole W id ++ a_sign sign_comma ∷ []))

-- arguments with the closing parenthesis
unfoldable pub arguments_of : List Node → List ℕ → List Symbol
arguments_of W ids = symbols_of_parts (written W) (listed ids ++ Sign sign_right_parenthesis ∷ [])

commas-turned : (W : List Node) (x : ℕ) (ids : List ℕ) (id : ℕ) (tail : List Part) → whole W x
    ++ symbols_of_parts (written W) (each_behind_comma (ids ++ id ∷ []) ++ tail) ≡ followed W (x ∷ ids)
    ++ (whole W id ++ symbols_of_parts (written W) tail)
unfolding each_behind_comma symbols_of_parts symbols_of_part followed
commas-turned W x [] id tail =
    sym (append_assoc (whole W x) (a_sign sign_comma ∷ []) (whole W id ++ symbols_of_parts (written W) tail))
    ∙ ap (λ (t : List Symbol). t ++ (whole W id ++ symbols_of_parts (written W) tail))
    (sym (append-nil (whole W x ++ a_sign sign_comma ∷ [])))
commas-turned W x (y ∷ ids) id tail =
    let more : whole W y ++ symbols_of_parts (written W) (each_behind_comma (ids ++ id ∷ []) ++ tail) ≡ followed W
    (y ∷ ids) ++ (whole W id ++ symbols_of_parts (written W) tail) = commas-turned W y ids id tail in
    let one : whole W x
    ++ (a_sign sign_comma ∷ (followed W (y ∷ ids) ++ (whole W id ++ symbols_of_parts (written W) tail)))
    ≡ ((whole W x ++ a_sign sign_comma ∷ []) ++ followed W (y ∷ ids))
    ++ (whole W id ++ symbols_of_parts (written W) tail) =
    sym
    (append_assoc (whole W x ++ a_sign sign_comma ∷ []) (followed W (y ∷ ids))
    (whole W id ++ symbols_of_parts (written W) tail) ∙ append_assoc (whole W x) (a_sign sign_comma ∷ [])
    (followed W (y ∷ ids) ++ (whole W id ++ symbols_of_parts (written W) tail))) in
    ap (λ (t : List Symbol). whole W x ++ (a_sign sign_comma ∷ t)) more ∙ one

pub arguments_of-put : (W : List Node) (ids : List ℕ) (id : ℕ) → arguments_of W (ids ++ id ∷ []) ≡ followed W ids
    ++ (whole W id ++ a_sign sign_right_parenthesis ∷ [])
unfolding arguments_of listed symbols_of_parts symbols_of_part followed each_behind_comma
arguments_of-put W [] id = refl
arguments_of-put W (x ∷ ids) id = commas-turned W x ids id (Sign sign_right_parenthesis ∷ [])

pub implemented-put : (W : List Node) (ids : List ℕ) (id : ℕ) →
    symbols_of_parts (written W) (implemented (ids ++ id ∷ [])) ≡ a_word word_implements
    ∷ (followed W ids ++ (whole W id ++ []))
unfolding implemented symbols_of_parts symbols_of_part followed each_behind_comma
implemented-put W [] id = refl
implemented-put W (x ∷ ids) id =
    ap (λ (ps : List Part). a_word word_implements ∷ (whole W x ++ symbols_of_parts (written W) ps))
    (sym (append-nil (each_behind_comma (ids ++ id ∷ [])))) ∙ ap (λ (t : List Symbol). a_word word_implements ∷ t)
    (commas-turned W x ids id [])

pub each-put : (W : List Node) (ids : List ℕ) (id : ℕ) → symbols_of W (ids ++ id ∷ []) ≡ symbols_of W ids ++ whole W id
unfolding symbols_of each symbols_of_parts symbols_of_part
each-put W [] id = append-nil (whole W id)
each-put W (x ∷ ids) id = ap (λ (t : List Symbol). whole W x ++ t) (each-put W ids id)
    ∙ sym (append_assoc (whole W x) (symbols_of W ids) (whole W id))

-- ---- lexemes behind bytes of a file, with more lexemes behind them

unfoldable pub laid : ℕ → List ℕ → List Symbol → List Lexeme → List Lexeme
laid file before [] o = o
laid file before (s ∷ ss) o = lexeme_at s (position_behind file before) ∷ laid file (before ++ printed s) ss o

pub laid-append : (file : ℕ) (before : List ℕ) (xs ys : List Symbol) (o : List Lexeme) →
    laid file before (xs ++ ys) o ≡ laid file before xs (laid file (before ++ canonical xs) ys o)
unfolding laid canonical
laid-append file before [] ys o = ap (λ (t : List ℕ). laid file t ys o) (sym (append-nil before))
laid-append file before (x ∷ xs) ys o =
    ap (λ (t : List Lexeme). lexeme_at x (position_behind file before) ∷ t) (laid-append file (before ++ printed x) xs ys o
    ∙ ap (λ (t : List ℕ). laid file (before ++ printed x) xs (laid file t ys o))
    (append_assoc before (printed x) (canonical xs)))

-- ---- what a row of lexemes begins with

unfoldable pub head : List Lexeme → Option Symbol
head [] = None
head (name_at w p ∷ o) = Some (a_name w)
head (word_at w p ∷ o) = Some (a_word w)
head (number_at n p ∷ o) = Some (a_number n)
head (text_at w p ∷ o) = Some (a_text w)
head (sign_at n p ∷ o) = Some (a_sign n)
head (the_end p ∷ o) = None

nowhere : Position
nowhere = record { file = 0; line = 0; col = 0 }

unary1_head : Option Symbol → Bool
unary1_head None = false
unary1_head (Some s) = is_unary1_start (lexeme_at s nowhere)

unary1_is : (i : List Lexeme) → begins_unary1 i ≡ unary1_head (head i)
unfolding head unary1_head begins_unary1 is_unary1_start lexeme_at
unary1_is [] = refl
unary1_is (name_at w p ∷ o) = refl
unary1_is (word_at w p ∷ o) = refl
unary1_is (number_at n p ∷ o) = refl
unary1_is (text_at w p ∷ o) = refl
unary1_is (sign_at n p ∷ o) = refl
unary1_is (the_end p ∷ o) = refl

pub unary1_of_heads : (i j : List Lexeme) → head i ≡ head j → begins_unary1 i ≡ begins_unary1 j
unary1_of_heads i j h = unary1_is i ∙ ap unary1_head h ∙ sym (unary1_is j)

minimum_head : Option Symbol → Bool
minimum_head (Some (a_number n)) = is_minimum n
minimum_head _ = false

minimum_is : (i : List Lexeme) → begins_with_minimum i ≡ minimum_head (head i)
unfolding head minimum_head begins_with_minimum
minimum_is [] = refl
minimum_is (name_at w p ∷ o) = refl
minimum_is (word_at w p ∷ o) = refl
minimum_is (number_at n p ∷ o) = refl
minimum_is (text_at w p ∷ o) = refl
minimum_is (sign_at n p ∷ o) = refl
minimum_is (the_end p ∷ o) = refl

pub minimum_of_heads : (i j : List Lexeme) → head i ≡ head j → begins_with_minimum i ≡ begins_with_minimum j
minimum_of_heads i j h = minimum_is i ∙ ap minimum_head h ∙ sym (minimum_is j)

right_head : Option Symbol → Bool
right_head (Some (a_sign n)) = n == sign_right_parenthesis
right_head _ = false

right_is : (w : List ℕ) (q : Position) (i : List Lexeme) → closes_name (name_at w q ∷ i) ≡ right_head (head i)
unfolding head right_head closes_name
right_is w q [] = refl
right_is w q (name_at v p ∷ o) = refl
right_is w q (word_at v p ∷ o) = refl
right_is w q (number_at n p ∷ o) = refl
right_is w q (text_at v p ∷ o) = refl
right_is w q (sign_at n p ∷ o) = refl
right_is w q (the_end p ∷ o) = refl

pub right_of_heads : (w : List ℕ) (p q : Position) (i j : List Lexeme) → head i ≡ head j →
    closes_name (name_at w p ∷ i) ≡ closes_name (name_at w q ∷ j)
right_of_heads w p q i j h = right_is w p i ∙ ap right_head h ∙ sym (right_is w q j)

-- ---- read again

-- what may stand behind an expression: where one row begins no operand of a cast, the other doesn't either
abbrev pub Calm : List Lexeme → List Lexeme → Type 0
Calm o o2 = begins_unary1 o ≡ false → begins_unary1 o2 ≡ false

-- from the nodes M and the lexemes i2 something is read up to o2, which is the same as id among W; id was read from
-- the lexemes i up to o
pub record Again (R : List Node → List Lexeme → List Node → List Lexeme → ℕ → Type 0) (W M : List Node)
    (i o i2 o2 : List Lexeme) (id : ℕ) : Type 0 where
  pub nodes : List Node
  pub place : ℕ
  pub grown : Front M nodes
  pub read : R M i2 nodes o2 place
  pub heads : head i ≡ head i2
  pub closes : head o ≡ head o2 → closes_name i ≡ closes_name i2
  pub alike : (V : List Node) → Front nodes V → Alike W V id place

pub again_of : {R : List Node → List Lexeme → List Node → List Lexeme → ℕ → Type 0} {W M : List Node}
    {i o i2 o2 : List Lexeme} {id : ℕ} (nodes : List Node) (index : ℕ) → Front M nodes → R M i2 nodes o2 index →
    head i ≡ head i2 → (head o ≡ head o2 → closes_name i ≡ closes_name i2) →
    ((V : List Node) → Front nodes V → Alike W V id index) → Again R W M i o i2 o2 id
again_of nodes index grown read heads closes same =
    record { nodes = nodes; place = index; grown = grown; read = read; heads = heads; closes = closes; alike = same }

pub moved : {R : List Node → List Lexeme → List Node → List Lexeme → ℕ → Type 0} {W M : List Node}
    {i o i2 i3 o2 : List Lexeme} {id : ℕ} → i3 ≡ i2 → Again R W M i o i2 o2 id → Again R W M i o i3 o2 id
moved {R} {W} {M} {i} {o} {i2} {i3} {o2} {id} e a = subst (λ (t : List Lexeme). Again R W M i o t o2 id) (sym e) a

pub record AllAgain (R : List Node → List Lexeme → List Node → List Lexeme → List ℕ → Type 0) (W M : List Node)
    (i2 o2 : List Lexeme) (ids : List ℕ) : Type 0 where
  pub nodes : List Node
  pub places : List ℕ
  pub grown : Front M nodes
  pub read : R M i2 nodes o2 places
  pub alike : (V : List Node) → Front nodes V → AllAlike W V ids places

pub all_again_of : {R : List Node → List Lexeme → List Node → List Lexeme → List ℕ → Type 0} {W M : List Node}
    {i2 o2 : List Lexeme} {ids : List ℕ} (nodes : List Node) (places : List ℕ) → Front M nodes →
    R M i2 nodes o2 places → ((V : List Node) → Front nodes V → AllAlike W V ids places) → AllAgain R W M i2 o2 ids
all_again_of nodes places grown read same =
    record { nodes = nodes; places = places; grown = grown; read = read; alike = same }

pub all_moved : {R : List Node → List Lexeme → List Node → List Lexeme → List ℕ → Type 0} {W M : List Node}
    {i2 i3 o2 : List Lexeme} {ids : List ℕ} → i3 ≡ i2 → AllAgain R W M i2 o2 ids → AllAgain R W M i3 o2 ids
all_moved {R} {W} {M} {i2} {i3} {o2} {ids} e a = subst (λ (t : List Lexeme). AllAgain R W M t o2 ids) (sym e) a

pub alike-put : {W V : List Node} {ids places : List ℕ} {id index : ℕ} → AllAlike W V ids places → Alike W V id index →
    AllAlike W V (ids ++ id ∷ []) (places ++ index ∷ [])
alike-put none_alike a = one_alike a none_alike
alike-put (one_alike b more) a = one_alike b (alike-put more a)

pub counted-same : {W V : List Node} {ids places : List ℕ} → AllAlike W V ids places → counted ids ≡ counted places
counted-same none_alike = refl
counted-same (one_alike a more) = ap (λ (t : List ℕ). 0 ∷ t) (counted-same more)

-- what stands at some place
pub record PostHere (minimum : Bool) (kind : PostKind) (M : List Node) (i : List Lexeme) (N : List Node)
    (o : List Lexeme) (id : ℕ) : Type 0 where
  pub at : Position
  pub read : PostRead minimum kind at M i N o id

pub post_here : {minimum : Bool} {kind : PostKind} {at : Position} {M N : List Node} {i o : List Lexeme} {id : ℕ} →
    PostRead minimum kind at M i N o id → PostHere minimum kind M i N o id
post_here {at = at} d = record { at = at; read = d }

-- the same where nothing has to be known of the first lexemes
pub record Reported (R : List Node → List Lexeme → List Node → List Lexeme → ℕ → Type 0) (W M : List Node)
    (i2 o2 : List Lexeme) (id : ℕ) : Type 0 where
  pub nodes : List Node
  pub place : ℕ
  pub grown : Front M nodes
  pub read : R M i2 nodes o2 place
  pub alike : (V : List Node) → Front nodes V → Alike W V id place

pub reported_of : {R : List Node → List Lexeme → List Node → List Lexeme → ℕ → Type 0} {W M : List Node}
    {i2 o2 : List Lexeme} {id : ℕ} (nodes : List Node) (index : ℕ) → Front M nodes → R M i2 nodes o2 index →
    ((V : List Node) → Front nodes V → Alike W V id index) → Reported R W M i2 o2 id
reported_of nodes index grown read same = record { nodes = nodes; place = index; grown = grown; read = read; alike = same }

pub reported_moved : {R : List Node → List Lexeme → List Node → List Lexeme → ℕ → Type 0} {W M : List Node}
    {i2 i3 o2 : List Lexeme} {id : ℕ} → i3 ≡ i2 → Reported R W M i2 o2 id → Reported R W M i3 o2 id
reported_moved {R} {W} {M} {i2} {i3} {o2} {id} e a = subst (λ (t : List Lexeme). Reported R W M t o2 id) (sym e) a

-- a part that may be missing
pub data MaybeAlike (W V : List Node) : Option ℕ → Option ℕ → Type 0 where
  both_missing : MaybeAlike W V None None
  both_there : {x y : ℕ} → Alike W V x y → MaybeAlike W V (Some x) (Some y)

pub there-same : {W V : List Node} {x y : Option ℕ} → MaybeAlike W V x y → there x ≡ there y
there-same both_missing = refl
there-same (both_there a) = refl

pub optional-alike : {W V : List Node} {x y : Option ℕ} {xs ys : List ℕ} → MaybeAlike W V x y → AllAlike W V xs ys →
    AllAlike W V (optional x ++ xs) (optional y ++ ys)
optional-alike both_missing a = a
optional-alike (both_there b) a = one_alike b a

pub optional-alike-last : {W V : List Node} {x y : Option ℕ} → MaybeAlike W V x y →
    AllAlike W V (optional x) (optional y)
optional-alike-last both_missing = none_alike
optional-alike-last (both_there b) = one_alike b none_alike

pub record MaybeReported (R : List Node → List Lexeme → List Node → List Lexeme → Option ℕ → Type 0) (W M : List Node)
    (i2 o2 : List Lexeme) (id : Option ℕ) : Type 0 where
  pub nodes : List Node
  pub place : Option ℕ
  pub grown : Front M nodes
  pub read : R M i2 nodes o2 place
  pub alike : (V : List Node) → Front nodes V → MaybeAlike W V id place

pub maybe_reported_of : {R : List Node → List Lexeme → List Node → List Lexeme → Option ℕ → Type 0} {W M : List Node}
    {i2 o2 : List Lexeme} {id : Option ℕ} (nodes : List Node) (index : Option ℕ) → Front M nodes →
    R M i2 nodes o2 index → ((V : List Node) → Front nodes V → MaybeAlike W V id index) → MaybeReported R W M i2 o2 id
maybe_reported_of nodes index grown read same =
    record { nodes = nodes; place = index; grown = grown; read = read; alike = same }

pub maybe_reported_moved : {R : List Node → List Lexeme → List Node → List Lexeme → Option ℕ → Type 0} {W M : List Node}
    {i2 i3 o2 : List Lexeme} {id : Option ℕ} → i3 ≡ i2 → MaybeReported R W M i2 o2 id → MaybeReported R W M i3 o2 id
maybe_reported_moved {R} {W} {M} {i2} {i3} {o2} {id} e a = subst (λ (t : List Lexeme). MaybeReported R W M t o2 id) (sym e) a
