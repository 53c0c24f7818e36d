-- Rows of lexemes and of parts, one behind the other.
use Rattle.std.proofs.Common.{◌≡◌, ℕ, ◌+◌, List, [], ◌∷◌, ◌++◌, reverse, refl, sym, ap, ◌∙◌, arith, append_assoc, append-nil}
use Rattle.std.proofs.lemmas.List.{reverse-append}
use Rattle.scj_tree.specs.declared.nodes.Node.{Node}
use Rattle.scj_show.specs.declared.parts.Part.{Part}
use Rattle.scj_show.specs.Symbols.{Symbol, Written, bytes_of, separator, canonical, symbols_of_part, symbols_of_parts, written}
use Rattle.scj_show.specs.Works.{pending, Size, size_of_part, size_of_parts, size, work}

pub canonical-append : (xs ys : List Symbol) → canonical (xs ++ ys) ≡ canonical xs ++ canonical ys
unfolding canonical
canonical-append [] ys = refl
canonical-append (x ∷ xs) ys = ap (λ (t : List ℕ). (bytes_of x ++ separator x ∷ []) ++ t) (canonical-append xs ys)
    ∙ sym (append_assoc (bytes_of x ++ separator x ∷ []) (canonical xs) (canonical ys))

pub symbols_of_parts-append : (w : ℕ → Written) (ps qs : List Part) →
    symbols_of_parts w (ps ++ qs) ≡ symbols_of_parts w ps ++ symbols_of_parts w qs
unfolding symbols_of_parts
symbols_of_parts-append w [] qs = refl
symbols_of_parts-append w (p ∷ ps) qs =
    ap (λ (t : List Symbol). symbols_of_part w p ++ t) (symbols_of_parts-append w ps qs)
    ∙ sym (append_assoc (symbols_of_part w p) (symbols_of_parts w ps) (symbols_of_parts w qs))

size_of_parts-append : (s : ℕ → Size) (ps qs : List Part) →
    size_of_parts s (ps ++ qs) ≡ size_of_parts s ps + size_of_parts s qs
unfolding size_of_parts
size_of_parts-append s [] qs = omega arith
size_of_parts-append s (p ∷ ps) qs = omega (arith, size_of_parts-append s ps qs)

size_of_parts-reverse : (s : ℕ → Size) (ps : List Part) → size_of_parts s (reverse ps) ≡ size_of_parts s ps
unfolding size_of_parts
size_of_parts-reverse s [] = refl
size_of_parts-reverse s (p ∷ ps) = ap (size_of_parts s) (reverse-append (p ∷ []) ps)
    ∙ size_of_parts-append s (reverse ps) (p ∷ []) ∙ omega (arith, size_of_parts-reverse s ps)

-- a part that is put last comes first
pub pending-put : (nodes : List Node) (ws : List Part) (p : Part) →
    pending nodes (ws ++ p ∷ []) ≡ symbols_of_part (written nodes) p ++ pending nodes ws
unfolding pending
pending-put nodes [] p = sym (append-nil (symbols_of_part (written nodes) p))
pending-put nodes (w ∷ ws) p = ap (λ (t : List Symbol). t ++ symbols_of_part (written nodes) w) (pending-put nodes ws p)
    ∙ append_assoc (symbols_of_part (written nodes) p) (pending nodes ws) (symbols_of_part (written nodes) w)

-- parts that are put last, turned over, come first in their order
pub pending-turned : (nodes : List Node) (ws ps : List Part) → pending nodes (ws ++ reverse ps) ≡ symbols_of_parts
    (written nodes) ps ++ pending nodes ws
unfolding symbols_of_parts
pending-turned nodes ws [] = ap (pending nodes) (append-nil ws)
pending-turned nodes ws (p ∷ ps) =
    let turned : ws ++ reverse (p ∷ ps) ≡ (ws ++ reverse ps) ++ p ∷ [] =
    ap (λ (t : List Part). ws ++ t) (reverse-append (p ∷ []) ps) ∙ sym (append_assoc ws (reverse ps) (p ∷ [])) in
    ap (pending nodes) turned ∙ pending-put nodes (ws ++ reverse ps) p
    ∙ ap (λ (t : List Symbol). symbols_of_part (written nodes) p ++ t) (pending-turned nodes ws ps)
    ∙ sym (append_assoc (symbols_of_part (written nodes) p) (symbols_of_parts (written nodes) ps)
    (pending nodes ws))

pub work-put : (nodes : List Node) (ws : List Part) (p : Part) →
    work nodes (ws ++ p ∷ []) ≡ size_of_part (size nodes) p + work nodes ws
unfolding work size_of_parts
work-put nodes ws p = omega (arith, size_of_parts-append (size nodes) ws (p ∷ []))

pub work-turned : (nodes : List Node) (ws ps : List Part) →
    work nodes (ws ++ reverse ps) ≡ work nodes ps + work nodes ws
unfolding work
work-turned nodes ws ps =
    omega (arith, size_of_parts-append (size nodes) ws (reverse ps), size_of_parts-reverse (size nodes) ps)
