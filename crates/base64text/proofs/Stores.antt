-- What a walk that writes piece after piece leaves, over any list. Assumes nothing.
use mathlib.Core.Path.{◌≡◌, sym, ◌∙◌, ap}
use mathlib.Core.List.{List, [], ◌∷◌, ◌++◌}
use Prim.Native.Nat.{ℕ, ◌+◌, ◌<◌, ◌≤◌}
use borrow.Rule.Slice.PartMut.{put_mid}
use lib.ListN.{length, get_or, take, drop}
use lib.Seq.{sets, sets-eq}
use Rattle.std.specs.List.{flat_map}
use Rattle.std.proofs.lemmas.Grind.{flat_map-append}
use Rattle.std.proofs.lemmas.List.{append-nil, append_assoc, drop-drop, take_all, take_more}
use Rattle.octets.proofs.Lists.{sets-append}

-- a part of a buffer that was copied over
pub stored : (o l : List ℕ) (n k : ℕ) → n + length l ≤ length o → k ≡ length l → put_mid n k o l ≡ sets o n l
stored o l n k h e = rw (sets-eq l o n h, e) (ap (λ m. take n o ++ (l ++ m)) (drop-drop (length l) n o) ∙ sym (append_assoc (take n o) l (drop (n + length l) o)))

-- a store behind another
pub stored_behind : (o x y : List ℕ) (at n : ℕ) → n ≡ at + length x → sets (sets o at x) n y ≡ sets o at (x ++ y)
stored_behind o x y at n e = rw e (sym (sets-append o at x y))

-- what f makes of one piece more
pub one_more : {X : Type 0} (f : List X → List ℕ) (ps : List (List X)) (i : ℕ) → i < length ps → flat_map f (take (i + 1) ps) ≡ flat_map f (take i ps) ++ f (get_or ps i [])
one_more f ps i h =
    rw (take_more ps i [] h) (flat_map-append f (take i ps) (get_or ps i [] ∷ []) ∙ ap (λ l. flat_map f (take i ps) ++ l) (append-nil (f (get_or ps i []))))

pub ruleset stores = (stored, stored_behind, one_more, take_all, append-nil)
