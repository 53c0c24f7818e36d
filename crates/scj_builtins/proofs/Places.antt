-- The numbers in the tables are the places of their rows.
use Rattle.std.proofs.Common.{◌≡◌, ℕ, zero, suc, ◌+◌, Bool, true, false, ◌&&◌, ◌==◌, List, [], ◌∷◌, length, map, find, slice_get, Option, Some, refl, if◌then◌else◌, subst}
use Rattle.scj_base.specs.Bytes.{is_same}
use Rattle.scj_builtins.specs.declared.classes.FrameworkClass.{FrameworkClass}
use Rattle.scj_builtins.specs.declared.methods.FrameworkMethod.{FrameworkMethod}
use Rattle.scj_builtins.specs.Framework.{framework_class_count, framework_method_count, framework_classes, framework_methods, method_named}

-- so many numbers from one on
pub counted : ℕ → ℕ → List ℕ
counted from zero = []
counted from (suc n) = from ∷ counted (from + 1) n

pub class_count-is : length framework_classes ≡ framework_class_count
unfolding framework_classes
class_count-is = refl

pub class_numbers-are : map (λ (c : FrameworkClass). c.number) framework_classes ≡ counted 0 framework_class_count
unfolding framework_classes counted
class_numbers-are = refl

pub method_count-is : length framework_methods ≡ framework_method_count
unfolding framework_methods
method_count-is = refl

pub method_numbers-are : map (λ (m : FrameworkMethod). m.number) framework_methods ≡ counted 0 framework_method_count
unfolding framework_methods counted
method_numbers-are = refl

-- each of these methods is at its number
AreThere : List FrameworkMethod → Type 0
AreThere [] = Unit {0}
AreThere (m ∷ ms) = (slice_get framework_methods m.number ≡ Some m) × AreThere ms

all_there : AreThere framework_methods
unfolding AreThere framework_methods
all_there = (
  refl,
  (
    refl,
    (
      refl,
      (
        refl,
        (
          refl,
          (
            refl,
            (
              refl,
              (
                refl,
                (
                  refl,
                  (
                    refl,
                    (refl, (refl, (refl, (refl, (refl, (refl, (refl, (refl, (refl, (refl, tt)))))))))),
                  ),
                ),
              ),
            ),
          ),
        ),
      ),
    ),
  ),
)

step : (test : FrameworkMethod → Bool) (x : FrameworkMethod) (rest : Option FrameworkMethod) (m : FrameworkMethod)
    (b : Bool) → slice_get framework_methods x.number ≡ Some x
    → (rest ≡ Some m → slice_get framework_methods m.number ≡ Some m) → (if b then Some x else rest) ≡ Some m →
    slice_get framework_methods m.number ≡ Some m
step test x rest m true here later h =
    let same : x ≡ m = cc in
    let P : FrameworkMethod → Type 0 = λ y. slice_get framework_methods y.number ≡ Some y in
    subst P same here
step test x rest m false here later h = later h

found_there : (test : FrameworkMethod → Bool) (ms : List FrameworkMethod) (m : FrameworkMethod) → AreThere ms →
    find test ms ≡ Some m → slice_get framework_methods m.number ≡ Some m
unfolding AreThere
found_there test [] m there h = cc
found_there test (x ∷ xs) m there h = step test x (find test xs) m (test x) there.0 (found_there test xs m there.1) h

-- a method that is found by its class and its name is at its number
pub named_there : (class : ℕ) (name : List ℕ) (m : FrameworkMethod) → method_named class name ≡ Some m →
    slice_get framework_methods m.number ≡ Some m
unfolding method_named
named_there class name m h =
    found_there (λ (method : FrameworkMethod). (method.on == class) && is_same name method.name) framework_methods m
    all_there h
