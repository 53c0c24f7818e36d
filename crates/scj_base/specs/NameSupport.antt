-- A name as 64 bytes and a length: the bytes behind the name are zero.
use Rattle.std.specs.Prelude.{ℕ, List, ◌≡◌, ◌≤◌, ◌-◌, ◌++◌, length, take, drop, replicate}
use Rattle.std.proofs.Common.{refl, ap, sym, ◌∙◌, arith}
use Rattle.std.proofs.lemmas.List.{length-take-le, take-append-drop}
use Rattle.scj_base.specs.declared.words.Name.TheInside.{Inside}

pub record IsPadded (bytes : List ℕ) (len : ℕ) : Type 0 where
  pub short : len ≤ 64
  pub whole : length bytes ≡ 64
  pub zero_behind : drop len bytes ≡ replicate (64 - len) 0

-- a name with zero bytes behind it, 64 bytes in all
abbrev pub padded : List ℕ → List ℕ
padded w = w ++ replicate (64 - length w) 0

abbrev pub of_parts : List ℕ → ℕ → Inside
of_parts bytes len = record { bytes = bytes; len = len }

-- taking the name out of 64 bytes and padding it again gives the 64 bytes
pub padded-undoes : (a : Inside) → IsPadded a.bytes a.len →
    of_parts (padded (take a.len a.bytes)) (length (take a.len a.bytes)) ≡ a
padded-undoes a h =
    let fits : a.len ≤ length a.bytes = omega (arith, h.short, h.whole) in
    let same_len : length (take a.len a.bytes) ≡ a.len = length-take-le a.len a.bytes fits in
    let same_bytes : take a.len a.bytes ++ replicate (64 - a.len) 0 ≡ a.bytes =
    ap (λ (t : List ℕ). take a.len a.bytes ++ t) (sym h.zero_behind) ∙ take-append-drop a.len a.bytes in
    rw same_len (rw same_bytes refl)
