-- Loads one after another, and what follows from a load's answer.
use Rattle.std.proofs.Common.{◌≡◌, ◌⊎◌, inl, inr, ℕ, ◌<◌, ◌≤◌, List, length, refl, sym, subst, ◌∙◌, Result, Ok, Err, IfOk, IfErr, arith}
use Rattle.scj_io.specs.Counters.{Rose}
use Rattle.scj_io.specs.Loads.{Held, ShelfRun, shelf_run, ShelfGoes, MayHold, MayExceed, LoadHolds, LoadExceeds, LoadRefuses, IsTooLongOrMemory}
use Rattle.scj_io.specs.Loads.Held.{Reported, Absent}
use Rattle.scj_io.specs.declared.shelves.LoadError.{LoadError}
use Rattle.scj_io.specs.declared.shelves.LoadError.TheVariants.{Failed, TooLong, Memory}

pub ShelfGoes-nothing : (h : List ℕ → Held) (f m : List ℕ → ℕ) → ShelfGoes h h f f m m
ShelfGoes-nothing h f m = record { held = λ _. refl; faults = λ name. omega arith; most = λ name. omega arith }

pub ShelfGoes-then : {h i j : List ℕ → Held} {f g k m n o : List ℕ → ℕ} → ShelfGoes h i f g m n →
    ShelfGoes i j g k n o → ShelfGoes h j f k m o
ShelfGoes-then first second = record {
  held = λ name. second.held name ∙ first.held name;
  faults = λ name. omega (arith, first.faults name, second.faults name);
  most = λ name. omega (arith, first.most name, second.most name);
}

-- what a load gave within a longer run
pub LoadHolds-within : {h i j l : List ℕ → Held} {f g f' g' m n m' n' : List ℕ → ℕ} {name : List ℕ} {limit : ℕ}
    {items : List ℕ} → ShelfGoes h i f g m n → LoadHolds (shelf_run i g f' m') name limit items →
    ShelfGoes j l f' g' m' n' → LoadHolds (shelf_run h f g' n') name limit items
LoadHolds-within {name = name} {items = items} before loaded after = record {
  content = subst (λ (held : Held). MayHold held items) (before.held name) loaded.content;
  within = loaded.within;
  counted = omega (arith, loaded.counted, after.most name);
}

pub LoadExceeds-within : {h i j l : List ℕ → Held} {f g f' g' m n m' n' : List ℕ → ℕ} {name : List ℕ}
    {limit taken : ℕ} → ShelfGoes h i f g m n → LoadExceeds (shelf_run i g f' m') name limit taken →
    ShelfGoes j l f' g' m' n' → LoadExceeds (shelf_run h f g' n') name limit taken
LoadExceeds-within {name = name} {limit = limit} before loaded after = record {
  content = subst (λ (held : Held). MayExceed held limit) (before.held name) loaded.content;
  beyond = loaded.beyond;
  counted = omega (arith, loaded.counted, after.most name);
}

-- a load that was refused within a longer run
pub LoadRefuses-within : {h i j l : List ℕ → Held} {f g f' g' m n m' n' : List ℕ → ℕ} (name : List ℕ) (limit : ℕ)
    (answer : LoadError) → ShelfGoes h i f g m n → LoadRefuses (shelf_run i g f' m') name limit answer →
    ShelfGoes j l f' g' m' n' → LoadRefuses (shelf_run h f g' n') name limit answer
LoadRefuses-within name limit Failed before refused after =
    omega (arith, refused, before.faults name, after.faults name)
LoadRefuses-within name limit (TooLong taken) before refused after = LoadExceeds-within before refused after
LoadRefuses-within name limit Memory before refused after = tt

-- where the bytes are told and fit, a load is not too long
pub reported_fits : {run : ShelfRun} {name : List ℕ} {limit taken : ℕ} {bytes : List ℕ} → LoadExceeds run name limit taken →
    run.held name ≡ Reported bytes → limit < length bytes
reported_fits {limit = limit} exceeds reported = subst (λ (held : Held). MayExceed held limit) reported exceeds.content

-- where the bytes are told, a load gives exactly these
pub reported_bytes : {run : ShelfRun} {name : List ℕ} {limit : ℕ} {items bytes : List ℕ} → LoadHolds run name limit items →
    run.held name ≡ Reported bytes → items ≡ bytes
reported_bytes {items = items} holds reported = subst (λ (held : Held). MayHold held items) reported holds.content

-- where the bytes are told and are more than the limit, and no fault rises, a load is too long
pub reported_exceeds : {V : Type 0} (items_of : V → List ℕ) (run : ShelfRun) (name : List ℕ) (limit : ℕ) (bytes : List ℕ)
    (result : Result V LoadError) → run.held name ≡ Reported bytes → limit < length bytes →
    (Rose (run.faults_before name) (run.faults_after name) → ⊥) →
    IfOk result (λ v. LoadHolds run name limit (items_of v)) →
    IfErr result (λ answer. LoadRefuses run name limit answer) → (answer : LoadError) × (result ≡ Err answer) ×
    IsTooLongOrMemory answer
reported_exceeds items_of run name limit bytes (Ok v) reported long calm ok err =
    absurd (too_short (reported_bytes ok reported) ok.within)
  where
    too_short : items_of v ≡ bytes → length (items_of v) ≤ limit → ⊥
    too_short same within = let longer : limit < length (items_of v) =
        subst (λ (t : List ℕ). limit < length t) (sym same) long in omega arith
reported_exceeds items_of run name limit bytes (Err Failed) reported long calm ok err = absurd (calm err)
reported_exceeds items_of run name limit bytes (Err (TooLong taken)) reported long calm ok err = (TooLong taken, refl, tt)
reported_exceeds items_of run name limit bytes (Err Memory) reported long calm ok err = (Memory, refl, tt)

-- a name told as absent is answered neither with bytes nor as too long
pub absent_refused : {V : Type 0} (items_of : V → List ℕ) (run : ShelfRun) (name : List ℕ) (limit : ℕ)
    (result : Result V LoadError) → run.held name ≡ Absent → IfOk result (λ v. LoadHolds run name limit (items_of v)) →
    IfErr result (λ answer. LoadRefuses run name limit answer) → (result ≡ Err Failed) ⊎ (result ≡ Err Memory)
absent_refused items_of run name limit (Ok v) absent ok err =
    absurd (subst (λ (held : Held). MayHold held (items_of v)) absent ok.content)
absent_refused items_of run name limit (Err Failed) absent ok err = inl refl
absent_refused items_of run name limit (Err (TooLong taken)) absent ok err =
    absurd (subst (λ (held : Held). MayExceed held limit) absent err.content)
absent_refused items_of run name limit (Err Memory) absent ok err = inr refl
