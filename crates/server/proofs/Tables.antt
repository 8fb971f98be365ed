-- The table of mechanisms, record by record. Assumes nothing.
use Rattle.std.specs.Prelude.{Option, Some}
use mathlib.Core.Path.{◌≡◌, refl, sym, ap, ◌∙◌}
use mathlib.Core.Bool.{Bool, true, false, cond}
use mathlib.Core.List.{List, [], ◌∷◌}
use Prim.Native.Nat.{ℕ}
use Rattle.std.proofs.iter.Yields.{fronts}
use Rattle.std.proofs.lemmas.Iterator.{YieldsList-from_slice}
use Rattle.std.proofs.lemmas.Iterator.Search.{find_from_yields_List}
use Rattle.std.specs.Fn.{CalledAt}
use Rattle.std.specs.Iterator.{FindsItem}
use Rattle.std.specs.List.{find}
use Rattle.std.specs.Slice.Iter.{iter_rest}
use Rattle.std.specs.declared.slice.Iter.{Iter}
use denote.Ref.{Bor}
use denote.Param.Members.{Mut}
use Rattle.std.specs.Option.{option_map}
use Rattle.octets.specs.Lists.{same}
use Rattle.session.specs.declared.view.Offer.{Offer}
use Rattle.server.specs.declared.Mechanism.{Mechanism}
use Rattle.server.specs.Mechanisms.{offered}

abbrev offer_of : Mechanism → Offer
offer_of m = record { client_first = m.client_first; needs_protection = m.needs_protection }

offered_is : (l : List Mechanism) (n : List ℕ) → offered l n ≡ option_map offer_of (find (λ m. same m.name n) l)
unfolding offered
offered_is [] n = refl
offered_is (m ∷ l) n = go (same m.name n) (offered_is l n)
  where
    go : (b : Bool) → offered l n ≡ option_map offer_of (find (λ m. same m.name n) l)
        → cond b (Some (offer_of m)) (offered l n) ≡ option_map offer_of (cond b (Some m) (find (λ m. same m.name n) l))
    go true e = refl
    go false e = e

-- what t.iter().find(|m| m.is_named(n)) says
pub offered_found : {F : Type 0} {s : Iter Mechanism} {p : F} {g : Mut F (Bor (Bor Mechanism) × Unit {0}) Bool} (t : List Mechanism) (n : List ℕ) (u : Iter Mechanism) (r : Option (Bor Mechanism))
    → FindsItem fronts g s p r u → iter_rest s ≡ t → ((m : Bor Mechanism) (b : Bool) (q : F) → CalledAt g p m b q → (q ≡ p) × (b ≡ same (m.now).name n))
    → option_map offer_of (option_map (λ m. m.now) r) ≡ offered t n
offered_found {p = p} t n u r h e k =
    ap (option_map offer_of) (find_from_yields_List (λ (m : Mechanism). same m.name n) u p r h (YieldsList-from_slice t e) k) ∙ sym (offered_is t n)
