-- The job of some words names 16 sources at most, or generates a program of a size that there is.
use Rattle.std.specs.Prelude.{◌≤◌, ◌&&◌, not, nat_le, Option, Some, None, option_map, if◌then◌else◌, codes, is_some, ◌||◌}
use Rattle.std.specs.Option.{option_and_then}
use Rattle.std.specs.List.{list_all}
use Rattle.std.specs.Str.{bytes_eq}
use Rattle.std.proofs.Common.{◌≡◌, ℕ, List, length, Bool, true, false, refl, subst, arith}
use Rattle.std.proofs.lemmas.Bool.Decides.{nat_tests}
use Rattle.clap.specs.Walk.{is_empty}
use Rattle.clap.specs.Words.{fault_of, matches_of}
use Rattle.command_line.specs.Command.{command}
use Rattle.command_line.specs.Sizes.{number_of, size_of}
use Rattle.command_line.specs.Job.{Job, Check, Run, Areas, Show, Gen, Respond, Confirm, Faults, Audit, Migrate, Bounds, Given, is_file_name, are_sources, sources_in, plan_in, plan_and_sources, sources_alone, only_source, plan_alone, size_alone, check_job, run_job, areas_job, show_job, gen_job, respond_job, confirm_job, faults_job, audit_job, migrate_job, bounds_job, job_by_mode, given_in, job_in, job_of}

unfoldable pub IsWithin : Job → Type 0
IsWithin (Check names) = length names ≤ 16
IsWithin (Run plan names) = length names ≤ 16
IsWithin (Areas plan names) = length names ≤ 16
IsWithin (Gen size) = size ≤ 250
IsWithin (Faults names) = length names ≤ 16
IsWithin (Bounds names) = length names ≤ 16
IsWithin job = Unit {0}

-- ---- what optional values are made of

-- where there is a value at all, it has P
Sound : {A : Type 0} → (A → Type 0) → Option A → Type 0
Sound {A} P o = (a : A) → o ≡ Some a → P a

none_sound : {A : Type 0} (P : A → Type 0) → Sound P None
unfolding Sound
none_sound P a e = absurd (cc (e))

some_sound : {A : Type 0} (P : A → Type 0) (x : A) → P x → Sound P (Some x)
unfolding Sound
some_sound P x h a e = let same : x ≡ a = cc (e) in subst P same h

chosen_sound : {A : Type 0} (P : A → Type 0) (b : Bool) (x y : Option A) → (b ≡ true → Sound P x) →
    (b ≡ false → Sound P y) → Sound P (if b then x else y)
chosen_sound P true x y h k = h refl
chosen_sound P false x y h k = k refl

mapped_sound : {A B : Type 0} (P : B → Type 0) (f : A → B) (o : Option A) → Sound (λ a. P (f a)) o →
    Sound P (option_map f o)
unfolding Sound
mapped_sound P f None h = none_sound P
mapped_sound P f (Some a) h = some_sound P (f a) (h a refl)

followed_sound : {A B : Type 0} (P : B → Type 0) (f : A → Option B) (o : Option A) → ((a : A) → Sound P (f a)) →
    Sound P (option_and_then f o)
unfolding Sound
followed_sound P f None h = none_sound P
followed_sound P f (Some a) h = h a

any_sound : {A : Type 0} (P : A → Type 0) (o : Option A) → ((a : A) → P a) → Sound P o
unfolding Sound
any_sound P o h a e = h a

-- ---- the sources and the size

AtMost : List (List ℕ) → Type 0
AtMost names = length names ≤ 16

both : (a b : Bool) → (a && b) ≡ true → (a ≡ true) × (b ≡ true)
both true true e = (refl, refl)
both true false e = absurd (cc (e))
both false b e = absurd (cc (e))

are_few : (names : List (List ℕ)) → are_sources names ≡ true → AtMost names
unfolding are_sources AtMost
are_few names e =
    let rest = (both (not (is_empty names)) (nat_le (length names) 16 && list_all is_file_name names) e).1 in
    let test : nat_le (length names) 16 ≡ true =
    (both (nat_le (length names) 16) (list_all is_file_name names) rest).0 in
    grind (arith, nat_tests)

module _ (g : Given) where
  sources_few : Sound AtMost (sources_in g)
  unfolding sources_in
  sources_few =
      followed_sound AtMost (λ names. if are_sources names then Some names else None) g.sources
      (λ names. chosen_sound AtMost (are_sources names) (Some names) None
      (λ e. some_sound AtMost names (are_few names e)) (λ e. none_sound AtMost))

  alone_few : Sound AtMost (sources_alone g)
  unfolding sources_alone
  alone_few =
      chosen_sound AtMost (is_some g.plan || is_some g.size) None (sources_in g) (λ e. none_sound AtMost)
      (λ e. sources_few)

  abbrev WithFew : List ℕ × List (List ℕ) → Type 0
  WithFew given = AtMost given.1

  planned_few : Sound WithFew (plan_and_sources g)
  unfolding plan_and_sources
  planned_few =
      chosen_sound WithFew (is_some g.size) _ _ (λ e. none_sound WithFew)
      (λ e. followed_sound WithFew (λ plan. option_map (λ sources. (plan, sources)) (sources_in g)) (plan_in g)
      (λ plan. mapped_sound WithFew (λ sources. (plan, sources)) (sources_in g) sources_few))

  size_small : Sound (λ n. n ≤ 250) (size_alone g)
  unfolding size_alone size_of
  size_small =
      chosen_sound (λ n. n ≤ 250) (is_some g.plan || is_some g.sources) None (option_and_then size_of g.size)
      (λ e. none_sound (λ n. n ≤ 250))
      (λ e. followed_sound (λ n. n ≤ 250) size_of g.size (λ text.
      followed_sound (λ n. n ≤ 250) (λ n. if nat_le 1 n && nat_le n 250 then Some n else None) (number_of text) (λ n.
      chosen_sound (λ n. n ≤ 250) (nat_le 1 n && nat_le n 250) (Some n) None
      (λ t. some_sound (λ n. n ≤ 250) n (let test = (both (nat_le 1 n) (nat_le n 250) t).1 in grind (arith, nat_tests)))
      (λ t. none_sound (λ n. n ≤ 250)))))

  -- ---- the modes

  mode_within : Sound IsWithin (job_by_mode g)
  unfolding job_by_mode check_job run_job areas_job show_job gen_job respond_job confirm_job faults_job audit_job
      migrate_job bounds_job IsWithin AtMost
  mode_within =
      chosen_sound IsWithin (bytes_eq g.mode (codes "check")) _ _
      (λ e. mapped_sound IsWithin Check (sources_alone g) alone_few)
      (λ e. chosen_sound IsWithin (bytes_eq g.mode (codes "run")) _ _
      (λ e. mapped_sound IsWithin (λ given. Run given.0 given.1) (plan_and_sources g) planned_few)
      (λ e. chosen_sound IsWithin (bytes_eq g.mode (codes "areas")) _ _
      (λ e. mapped_sound IsWithin (λ given. Areas given.0 given.1) (plan_and_sources g) planned_few)
      (λ e. chosen_sound IsWithin (bytes_eq g.mode (codes "show")) _ _
      (λ e. mapped_sound IsWithin Show (sources_alone g) (any_sound _ _ (λ a. tt)))
      (λ e. chosen_sound IsWithin (bytes_eq g.mode (codes "gen")) _ _
      (λ e. mapped_sound IsWithin Gen (size_alone g) size_small)
      (λ e. chosen_sound IsWithin (bytes_eq g.mode (codes "respond")) _ _
      (λ e. mapped_sound IsWithin Respond (plan_alone g) (any_sound _ _ (λ a. tt)))
      (λ e. chosen_sound IsWithin (bytes_eq g.mode (codes "confirm")) _ _
      (λ e. mapped_sound IsWithin Confirm (plan_alone g) (any_sound _ _ (λ a. tt)))
      (λ e. chosen_sound IsWithin (bytes_eq g.mode (codes "faults")) _ _
      (λ e. mapped_sound IsWithin Faults (sources_alone g) alone_few)
      (λ e. chosen_sound IsWithin (bytes_eq g.mode (codes "audit")) _ _
      (λ e. chosen_sound IsWithin (is_some g.size) _ _ (λ e. none_sound IsWithin)
      (λ e. followed_sound IsWithin (λ plan. option_map (Audit plan) (only_source g)) (plan_in g)
      (λ plan. mapped_sound IsWithin (Audit plan) (only_source g) (any_sound _ _ (λ a. tt)))))
      (λ e. chosen_sound IsWithin (bytes_eq g.mode (codes "migrate")) _ _
      (λ e. mapped_sound IsWithin Migrate (plan_alone g) (any_sound _ _ (λ a. tt)))
      (λ e. chosen_sound IsWithin (bytes_eq g.mode (codes "bounds")) _ _
      (λ e. mapped_sound IsWithin Bounds (sources_alone g) alone_few)
      (λ e. none_sound IsWithin)))))))))))

pub job_within : (words : List (List ℕ)) (job : Job) → job_of words ≡ Some job → IsWithin job
unfolding job_of job_in Sound
job_within words job e =
    chosen_sound IsWithin (is_empty (fault_of command words))
    (option_and_then job_by_mode (given_in (matches_of command words))) None
    (λ t. followed_sound IsWithin job_by_mode (given_in (matches_of command words)) (λ g. mode_within g))
    (λ t. none_sound IsWithin) job e
