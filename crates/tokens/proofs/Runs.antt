-- The bytes of a longest run are all of its class.
use Rattle.std.proofs.Common.{◌≡◌, ◌+◌, Bool, true, false, cond, List, [], ◌∷◌, take, refl, one-add}
use Rattle.std.specs.List.{prefix_len, AllByRecursion}

module _ {X : Type 0} (p : X → Bool) where
  one_more : (b : Bool) (x : X) (xs : List X) → p x ≡ b → AllByRecursion (λ y. p y ≡ true) (take (prefix_len p xs) xs) → AllByRecursion (λ y. p y ≡ true) (take (cond b (1 + prefix_len p xs) 0) (x ∷ xs))
  one_more true x xs e h = rw one-add (e, h)
  one_more false x xs e h = tt

  pub run-all : (xs : List X) → AllByRecursion (λ x. p x ≡ true) (take (prefix_len p xs) xs)
  run-all [] = tt
  run-all (x ∷ xs) = one_more (p x) x xs refl (run-all xs)
