-- The places of a list of files: as many as there are files, one list of them, and the one that is computed.
use mathlib.Core.Path.{◌≡◌, refl, sym, ap, ap₂, ◌∙◌}
use mathlib.Core.List.{List, [], ◌∷◌, ◌++◌, map, append-nil, append_assoc}
use Prim.Native.Nat.{ℕ, suc, ◌+◌, ◌*◌}
use native.Mathlib.Omega.{arith}
use lib.ListN.{length, length-append}
use Rattle.place.specs.Place.{place_size, Placed, place_for, Places, none, place, joined}
use Rattle.place.proofs.Places.{placed_long, one_place, place_for_lem}

-- as many places as files
one_more : (f p : List ℕ) (fs ps : List (List ℕ)) → Placed f p → length (joined ps) ≡ place_size * length fs → length (p ++ joined ps) ≡ place_size * suc (length fs)
one_more f p fs ps x e = let k = placed_long f p x in length-append p (joined ps) ∙ omega arith

pub places_long : (gs qs : List (List ℕ)) → Places gs qs → length (joined qs) ≡ place_size * length gs
places_long gs qs none = refl
places_long gs qs (place {f} {p} {fs} {ps} x xs) = one_more f p fs ps x (places_long fs ps xs)

-- one place more
pub places_more : (fs ps : List (List ℕ)) (f p : List ℕ) → Places fs ps → Placed f p → Places (fs ++ (f ∷ [])) (ps ++ (p ∷ []))
places_more fs ps f p none x = place x none
places_more fs ps f p (place y ys) x = place y (places_more _ _ f p ys x)

pub joined_more : (ps : List (List ℕ)) (p : List ℕ) → joined (ps ++ (p ∷ [])) ≡ joined ps ++ p
joined_more [] p = append-nil p
joined_more (q ∷ qs) p = ap (λ (r : List ℕ). q ++ r) (joined_more qs p) ∙ sym (append_assoc q (joined qs) p)

pub count_more : (fs : List (List ℕ)) (f : List ℕ) → length (fs ++ (f ∷ [])) ≡ length fs + 1
count_more fs f = length-append fs (f ∷ []) ∙ omega arith

-- a list of files has one list of places
cons_places : (p q : List ℕ) (ps qs : List (List ℕ)) → p ≡ q → ps ≡ qs → p ∷ ps ≡ q ∷ qs
cons_places p q ps qs e g = ap₂ (λ (x : List ℕ) (xs : List (List ℕ)). x ∷ xs) e g

pub one_places : (gs xs ys : List (List ℕ)) → Places gs xs → Places gs ys → xs ≡ ys
one_places gs xs ys none none = refl
one_places gs xs ys (place a h) (place b k) = cons_places _ _ _ _ (one_place _ _ _ a b) (one_places _ _ _ h k)

-- the places that are computed
pub some_places : (fs : List (List ℕ)) → Places fs (map place_for fs)
some_places [] = none
some_places (f ∷ fs) = place (place_for_lem f) (some_places fs)
