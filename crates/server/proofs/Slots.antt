-- Slots of which one was replaced: what is found by a number then, and that numbers and tickets still differ. Assumes nothing.
use mathlib.Core.Path.{◌≡◌, refl, sym, ap, ◌∙◌}
use mathlib.Core.Bool.{Bool, true, false, cond, not, true≢false}
use mathlib.Core.List.{List, [], ◌∷◌}
use mathlib.Core.Option.{Option, none, some}
use Prim.Native.Nat.{ℕ, zero, suc}
use native.Mathlib.Omega.{arith}
use lib.Dec.{eqb}
use lib.ListN.{length, replicate}
use borrow.Author.Tests.{eqb-true, eqb-false, eq-eqb, ne_eqb, ltb-true, not-true}
use Rattle.octets.specs.Lists.{every}
use Rattle.octets.proofs.Cases.{both}
use Rattle.session.specs.declared.Phase.{Phase}
use Rattle.session.specs.declared.Phase.TheVariants as Phases
use Rattle.session.specs.Named.{waits_on}
use Rattle.server.specs.declared.Connection.{Connection}
use Rattle.server.specs.Server.{Slot}
use Rattle.server.specs.Slots.{is_numbered, is_waiting, is_free, holding, any_free, found, replaced}
use Rattle.server.specs.WellFormed.{number_of, ticket_of, phase_ticket, is_below, has, clashes, apart, differ}

-- the first slot that passes a test
unfoldable pub first : (Slot → Bool) → List Slot → Option Slot
first p [] = none
first p (x ∷ xs) = cond (p x) (some x) (first p xs)

pub found_first : (q : Connection → Bool) (c : Connection) (xs : List Slot) → found q xs ≡ some c → first (holding q) xs ≡ some (some c)
unfolding found first
found_first q c [] e = cc
found_first q c (none ∷ xs) e = found_first q c xs e
found_first q c (some x ∷ xs) e = go (q x) refl (found_first q c xs)
  where
    go : (b : Bool) → q x ≡ b → (found q xs ≡ some c → first (holding q) xs ≡ some (some c)) → first (holding q) (some x ∷ xs) ≡ some (some c)
    go true h ih = let r : some x ≡ some c = rw h at e in rw h (ap some r)
    go false h ih = rw h (ih (rw h at e))

pub free-first : (xs : List Slot) → any_free xs ≡ true → first is_free xs ≡ some none
unfolding any_free first
free-first [] e = cc
free-first (none ∷ xs) e = refl
free-first (some c ∷ xs) e = free-first xs e

-- ---- a test of each slot

pub length-replaced : (p : Slot → Bool) (y : Slot) (xs : List Slot) → length (replaced p y xs) ≡ length xs
unfolding replaced
length-replaced p y [] = refl
length-replaced p y (x ∷ xs) = go (p x) (length-replaced p y xs)
  where
    go : (b : Bool) → length (replaced p y xs) ≡ length xs → length (cond b (y ∷ xs) (x ∷ replaced p y xs)) ≡ suc (length xs)
    go true ih = refl
    go false ih = ap suc ih

module _ (f : Slot → Bool) where
  pub every_first : (p : Slot → Bool) (z : Slot) (xs : List Slot) → first p xs ≡ some z → every f xs ≡ true → f z ≡ true
  unfolding first every
  every_first p z [] e h = cc
  every_first p z (x ∷ xs) e h = go (p x) refl (every_first p z xs)
    where
      go : (b : Bool) → p x ≡ b → (first p xs ≡ some z → every f xs ≡ true → f z ≡ true) → f z ≡ true
      go true k ih = let r : some x ≡ some z = rw k at e in let g : x ≡ z = cc in ap f (sym g) ∙ (both (f x) (every f xs) h).0
      go false k ih = ih (rw k at e) (both (f x) (every f xs) h).1

  pub every-replaced : (p : Slot → Bool) (y : Slot) (xs : List Slot) → every f xs ≡ true → f y ≡ true → every f (replaced p y xs) ≡ true
  unfolding replaced every
  every-replaced p y [] h k = refl
  every-replaced p y (x ∷ xs) h k = let w = both (f x) (every f xs) h in go (p x) w (every-replaced p y xs w.1 k)
    where
      go : (b : Bool) → (f x ≡ true) × (every f xs ≡ true) → every f (replaced p y xs) ≡ true → every f (cond b (y ∷ xs) (x ∷ replaced p y xs)) ≡ true
      go true w ih = rw (k, w.1)
      go false w ih = rw (w.0, ih)

pub every-imp : {A : Type 0} (f g : A → Bool) → ((x : A) → f x ≡ true → g x ≡ true) → (xs : List A) → every f xs ≡ true → every g xs ≡ true
unfolding every
every-imp f g i [] h = refl
every-imp f g i (x ∷ xs) h = let w = both (f x) (every f xs) h in rw (i x w.0, every-imp f g i xs w.1)

pub every-replicate : {A : Type 0} (f : A → Bool) (x : A) (n : ℕ) → f x ≡ true → every f (replicate n x) ≡ true
unfolding every
every-replicate f x zero h = refl
every-replicate f x (suc n) h = rw (h, every-replicate f x n h)

-- ---- numbers and tickets

-- how the number or ticket of a slot may change where b is the next to be issued
pub data Rekeyed (b : ℕ) : Option ℕ → Option ℕ → Type 0 where
  kept : {k : Option ℕ} → Rekeyed b k k
  dropped : {k : Option ℕ} → Rekeyed b k none
  issued : {k : Option ℕ} → Rekeyed b k (some b)

below-not : (k : Option ℕ) (b : ℕ) → is_below k b ≡ true → has k b ≡ false
below-not none b h = refl
below-not (some m) b h = let l = ltb-true m b h in ne_eqb m b (λ e. omega arith)

clash-none : (k : Option ℕ) → clashes k none ≡ false
clash-none none = refl
clash-none (some m) = refl

clash-next : (k : Option ℕ) (b : ℕ) → is_below k b ≡ true → clashes k (some b) ≡ false
clash-next none b h = refl
clash-next (some m) b h = let l = ltb-true m b h in ne_eqb b m (λ e. omega arith)

module _ (key : Slot → Option ℕ) (b : ℕ) where
  abbrev Below : List Slot → Type 0
  Below xs = every (λ x. is_below (key x) b) xs ≡ true

  abbrev Clear : Option ℕ → List Slot → Type 0
  Clear k xs = every (λ y. not (clashes k (key y))) xs ≡ true

  pub none-next : (xs : List Slot) → Below xs → every (λ y. not (has (key y) b)) xs ≡ true
  none-next xs h = every-imp (λ x. is_below (key x) b) (λ y. not (has (key y) b)) (λ x l. ap not (below-not (key x) b l)) xs h

  -- the slot that comes clashes with none of those that the old one did not clash with
  clear-new : (k j : Option ℕ) (xs : List Slot) → Rekeyed b k j → Below xs → Clear k xs → Clear j xs
  clear-new k j xs kept l h = h
  clear-new k j xs dropped l h = every-imp (λ y. not (clashes k (key y))) (λ y. true) (λ x e. refl) xs h
  clear-new k j xs issued l h = none-next xs l

  clear_of : (i k j : Option ℕ) → Rekeyed b k j → is_below i b ≡ true → not (clashes i k) ≡ true → not (clashes i j) ≡ true
  clear_of i k j kept l h = h
  clear_of i k j dropped l h = ap not (clash-none i)
  clear_of i k j issued l h = ap not (clash-next i b l)

  pub differ-replaced : (p : Slot → Bool) (y z : Slot) (xs : List Slot) → first p xs ≡ some z → Rekeyed b (key z) (key y) → Below xs
      → differ key xs ≡ true → differ key (replaced p y xs) ≡ true
  unfolding first replaced every apart
  differ-replaced p y z [] e r l d = refl
  differ-replaced p y z (x ∷ xs) e r l d =
      go (p x) refl (both (is_below (key x) b) (every (λ a. is_below (key a) b) xs) l)
      (both (every (λ a. not (clashes (key x) (key a))) xs) (differ key xs) d) (differ-replaced p y z xs)
    where
      go : (t : Bool) → p x ≡ t → (is_below (key x) b ≡ true) × Below xs → Clear (key x) xs × (differ key xs ≡ true)
          → (first p xs ≡ some z → Rekeyed b (key z) (key y) → Below xs → differ key xs ≡ true → differ key (replaced p y xs) ≡ true)
          → differ key (replaced p y (x ∷ xs)) ≡ true
      go true k w v ih =
          let g : some x ≡ some z = rw k at e in
          let q : x ≡ z = cc in
          let c : Clear (key z) xs = rw q at v.0 in
          rw (k, clear-new (key z) (key y) xs r w.1 c, v.1)
      go false k w v ih =
          let f : first p xs ≡ some z = rw k at e in
          let c : not (clashes (key x) (key y)) ≡ true =
          clear_of (key x) (key z) (key y) r w.0 (every_first (λ a. not (clashes (key x) (key a))) p z xs f v.0) in
          rw (k, every-replaced (λ a. not (clashes (key x) (key a))) p y xs v.0 c, ih f r w.1 v.1)

pub differ-free : (key : Slot → Option ℕ) → key none ≡ none → (n : ℕ) → differ key (replicate n none) ≡ true
unfolding apart
differ-free key e zero = refl
differ-free key e (suc n) = rw (e, every-replicate (λ (y : Slot). true) none n refl, differ-free key e n)

-- ---- what is found by a number

twice : {A : Type 0} (b : Bool) (x y z : A) → cond b x (cond b y z) ≡ cond b x z
twice true x y z = refl
twice false x y z = refl

flip : (m n : ℕ) → eqb m n ≡ false → eqb n m ≡ false
flip m n h = ne_eqb n m (λ e. eqb-false m n h (sym e))

-- the connection that has a number
pub found_number : (m : ℕ) (c : Connection) (xs : List Slot) → found (is_numbered m) xs ≡ some c → c.number ≡ m
unfolding found
found_number m c [] e = cc
found_number m c (none ∷ xs) e = found_number m c xs e
found_number m c (some x ∷ xs) e = go (eqb x.number m) refl (found_number m c xs)
  where
    go : (b : Bool) → eqb x.number m ≡ b → (found (is_numbered m) xs ≡ some c → c.number ≡ m) → c.number ≡ m
    go true h ih = let r : some x ≡ some c = rw h at e in let g : x ≡ c = cc in ap (λ (k : Connection). k.number) (sym g) ∙ eqb-true x.number m h
    go false h ih = ih (rw h at e)

-- a connection found by any test is the one with its number
pub found-own : (q : Connection → Bool) (c : Connection) (xs : List Slot) → found q xs ≡ some c → differ number_of xs ≡ true
    → found (is_numbered c.number) xs ≡ some c
unfolding found apart
found-own q c [] e d = cc
found-own q c (none ∷ xs) e d = found-own q c xs e (both (every (λ (y : Slot). true) xs) (differ number_of xs) d).1
found-own q c (some x ∷ xs) e d = go (q x) refl (both (every (λ y. not (has (number_of y) x.number)) xs) (differ number_of xs) d) (found-own q c xs)
  where
    go : (b : Bool) → q x ≡ b → (every (λ y. not (has (number_of y) x.number)) xs ≡ true) × (differ number_of xs ≡ true)
        → (found q xs ≡ some c → differ number_of xs ≡ true → found (is_numbered c.number) xs ≡ some c)
        → found (is_numbered c.number) (some x ∷ xs) ≡ some c
    go true h w ih =
        let r : some x ≡ some c = rw h at e in
        let g : x ≡ c = cc in
        rw (eq-eqb x.number c.number (ap (λ (k : Connection). k.number) g)) r
    go false h w ih =
        let f : found q xs ≡ some c = rw h at e in
        let m : not (eqb c.number x.number) ≡ true =
        every_first (λ y. not (has (number_of y) x.number)) (holding q) (some c) xs (found_first q c xs f) w.0 in
        let k : eqb x.number c.number ≡ false =
        ne_eqb x.number c.number (λ i. eqb-false c.number x.number (not-true (eqb c.number x.number) m) (sym i)) in
        rw k (ih f w.1)

-- it takes another session
pub find-same : (m n : ℕ) (y z : Connection) (xs : List Slot) → found (is_numbered m) xs ≡ some z → y.number ≡ m
    → found (is_numbered n) (replaced (holding (is_numbered m)) (some y) xs) ≡ cond (eqb m n) (some y) (found (is_numbered n) xs)
unfolding found replaced
find-same m n y z [] e h = cc
find-same m n y z (none ∷ xs) e h = find-same m n y z xs e h
find-same m n y z (some x ∷ xs) e h = go (eqb x.number m) refl (eqb x.number n) refl (find-same m n y z xs)
  where
    go : (a : Bool) → eqb x.number m ≡ a → (b : Bool) → eqb x.number n ≡ b
        → (found (is_numbered m) xs ≡ some z → y.number ≡ m
        → found (is_numbered n) (replaced (holding (is_numbered m)) (some y) xs) ≡ cond (eqb m n) (some y) (found (is_numbered n) xs))
        → found (is_numbered n) (replaced (holding (is_numbered m)) (some y) (some x ∷ xs)) ≡ cond (eqb m n) (some y) (found (is_numbered n) (some x ∷ xs))
    go true ea b eb ih =
        rw ea
        (ap (λ (k : ℕ). cond (eqb k n) (some y) (found (is_numbered n) xs)) h
        ∙ sym (twice (eqb m n) (some y) (some x) (found (is_numbered n) xs))
        ∙ ap (λ (k : ℕ). cond (eqb m n) (some y) (cond (eqb k n) (some x) (found (is_numbered n) xs))) (sym (eqb-true x.number m ea)))
    go false ea true eb ih =
        let q : eqb n m ≡ false = rw (eqb-true x.number n eb) at ea in
        rw (ea, eb, flip n m q)
    go false ea false eb ih = rw (ea, eb) (ih (rw ea at e) h)

-- none has the number
absent_none : (m : ℕ) (xs : List Slot) → every (λ y. not (has (number_of y) m)) xs ≡ true → found (is_numbered m) xs ≡ none
unfolding found every
absent_none m [] a = refl
absent_none m (none ∷ xs) a = absent_none m xs a
absent_none m (some x ∷ xs) a =
    let w = both (not (eqb x.number m)) (every (λ y. not (has (number_of y) m)) xs) a in
    rw (not-true (eqb x.number m) w.0) (absent_none m xs w.1)

-- it is closed
pub find-close : (m n : ℕ) (z : Connection) (xs : List Slot) → found (is_numbered m) xs ≡ some z → differ number_of xs ≡ true
    → found (is_numbered n) (replaced (holding (is_numbered m)) none xs) ≡ cond (eqb m n) none (found (is_numbered n) xs)
unfolding found replaced apart
find-close m n z [] e d = cc
find-close m n z (none ∷ xs) e d = find-close m n z xs e (both (every (λ (y : Slot). true) xs) (differ number_of xs) d).1
find-close m n z (some x ∷ xs) e d =
    go (eqb x.number m) refl (eqb x.number n) refl (both (every (λ y. not (has (number_of y) x.number)) xs) (differ number_of xs) d) (find-close m n z xs)
  where
    go : (a : Bool) → eqb x.number m ≡ a → (b : Bool) → eqb x.number n ≡ b
        → (every (λ y. not (has (number_of y) x.number)) xs ≡ true) × (differ number_of xs ≡ true)
        → (found (is_numbered m) xs ≡ some z → differ number_of xs ≡ true
        → found (is_numbered n) (replaced (holding (is_numbered m)) none xs) ≡ cond (eqb m n) none (found (is_numbered n) xs))
        → found (is_numbered n) (replaced (holding (is_numbered m)) none (some x ∷ xs)) ≡ cond (eqb m n) none (found (is_numbered n) (some x ∷ xs))
    go true ea true eb w ih =
        let p : x.number ≡ m = eqb-true x.number m ea in
        let q : x.number ≡ n = eqb-true x.number n eb in
        let a : every (λ y. not (has (number_of y) n)) xs ≡ true = rw q at w.0 in
        rw (ea, eq-eqb m n (sym p ∙ q)) (absent_none n xs a)
    go true ea false eb w ih =
        let q : eqb m n ≡ false = rw (eqb-true x.number m ea) at eb in
        rw (ea, eb, q)
    go false ea true eb w ih =
        let q : eqb n m ≡ false = rw (eqb-true x.number n eb) at ea in
        rw (ea, eb, flip n m q)
    go false ea false eb w ih = rw (ea, eb) (ih (rw ea at e) w.1)

-- a free slot is taken, under a number that no slot has
pub find-opened : (m n : ℕ) (y : Connection) (xs : List Slot) → any_free xs ≡ true → every (λ x. not (has (number_of x) m)) xs ≡ true → y.number ≡ m
    → found (is_numbered n) (replaced is_free (some y) xs) ≡ cond (eqb m n) (some y) (found (is_numbered n) xs)
unfolding found replaced any_free every
find-opened m n y [] f a h = cc
find-opened m n y (none ∷ xs) f a h = ap (λ (k : ℕ). cond (eqb k n) (some y) (found (is_numbered n) xs)) h
find-opened m n y (some x ∷ xs) f a h = go (eqb x.number n) refl (both (not (eqb x.number m)) (every (λ x. not (has (number_of x) m)) xs) a) (find-opened m n y xs f)
  where
    go : (b : Bool) → eqb x.number n ≡ b → (not (eqb x.number m) ≡ true) × (every (λ x. not (has (number_of x) m)) xs ≡ true)
        → (every (λ x. not (has (number_of x) m)) xs ≡ true → y.number ≡ m → found (is_numbered n) (replaced is_free (some y) xs) ≡ cond (eqb m n) (some y) (found (is_numbered n) xs))
        → found (is_numbered n) (replaced is_free (some y) (some x ∷ xs)) ≡ cond (eqb m n) (some y) (found (is_numbered n) (some x ∷ xs))
    go true eb w ih =
        let q : eqb n m ≡ false = rw (eqb-true x.number n eb) at (not-true (eqb x.number m) w.0) in
        rw (eb, flip n m q)
    go false eb w ih = rw eb (ih w.1 h)

-- ---- what is found by a ticket

pub waits-has : (t : ℕ) (p : Phase) → waits_on t p ≡ has (phase_ticket p) t
waits-has t Phases.Idle = refl
waits-has t Phases.SignedIn = refl
waits-has t (Phases.Awaiting k) = refl
waits-has t (Phases.Waiting u k) = refl

pub has_some : (k : Option ℕ) (n : ℕ) → has k n ≡ true → k ≡ some n
has_some none n h = cc
has_some (some m) n h = ap some (eqb-true m n h)

-- whether a connection waits on a ticket, of one that was found or not
abbrev pub found_waits : ℕ → Option Connection → Bool
found_waits t none = false
found_waits t (some c) = is_waiting t c

pub found-waits : (t : ℕ) (c : Connection) (xs : List Slot) → found (is_waiting t) xs ≡ some c → is_waiting t c ≡ true
unfolding found
found-waits t c [] e = cc
found-waits t c (none ∷ xs) e = found-waits t c xs e
found-waits t c (some x ∷ xs) e = go (is_waiting t x) refl (found-waits t c xs)
  where
    go : (b : Bool) → is_waiting t x ≡ b → (found (is_waiting t) xs ≡ some c → is_waiting t c ≡ true) → is_waiting t c ≡ true
    go true h ih = let r : some x ≡ some c = rw h at e in let g : x ≡ c = cc in ap (is_waiting t) (sym g) ∙ h
    go false h ih = ih (rw h at e)

-- a connection found by any test that waits on the ticket is the one that is found by it
pub found-waiting : (t : ℕ) (q : Connection → Bool) (c : Connection) (xs : List Slot) → found q xs ≡ some c → is_waiting t c ≡ true → differ ticket_of xs ≡ true
    → found (is_waiting t) xs ≡ some c
unfolding found apart
found-waiting t q c [] e w d = cc
found-waiting t q c (none ∷ xs) e w d = found-waiting t q c xs e w (both (every (λ (y : Slot). true) xs) (differ ticket_of xs) d).1
found-waiting t q c (some x ∷ xs) e w d =
    go (q x) refl (is_waiting t x) refl (both (every (λ y. not (clashes (phase_ticket x.session.phase) (ticket_of y))) xs) (differ ticket_of xs) d)
    (λ f. found-waiting t q c xs f w)
  where
    go : (a : Bool) → q x ≡ a → (b : Bool) → is_waiting t x ≡ b
        → (every (λ y. not (clashes (phase_ticket x.session.phase) (ticket_of y))) xs ≡ true) × (differ ticket_of xs ≡ true)
        → (found q xs ≡ some c → differ ticket_of xs ≡ true → found (is_waiting t) xs ≡ some c) → found (is_waiting t) (some x ∷ xs) ≡ some c
    go true ea b eb v ih =
        let r : some x ≡ some c = rw ea at e in
        let g : x ≡ c = cc in
        rw (ap (is_waiting t) g ∙ w) r
    go false ea true eb v ih =
        let f : found q xs ≡ some c = rw ea at e in
        let k : phase_ticket x.session.phase ≡ some t = has_some (phase_ticket x.session.phase) t (sym (waits-has t x.session.phase) ∙ eb) in
        let a : every (λ y. not (has (ticket_of y) t)) xs ≡ true = rw k at v.0 in
        let m : not (has (phase_ticket c.session.phase) t) ≡ true = every_first (λ y. not (has (ticket_of y) t)) (holding q) (some c) xs (found_first q c xs f) a in
        absurd (true≢false (sym w ∙ waits-has t c.session.phase ∙ not-true (has (phase_ticket c.session.phase) t) m))
    go false ea false eb v ih = rw eb (ih (rw ea at e) v.1)

-- nobody waits on the ticket
nobody-waits : (t n : ℕ) (xs : List Slot) → every (λ y. not (has (ticket_of y) t)) xs ≡ true → found_waits t (found (is_numbered n) xs) ≡ false
unfolding found every
nobody-waits t n [] a = refl
nobody-waits t n (none ∷ xs) a = nobody-waits t n xs a
nobody-waits t n (some x ∷ xs) a =
    go (eqb x.number n) refl (both (not (has (phase_ticket x.session.phase) t)) (every (λ y. not (has (ticket_of y) t)) xs) a) (nobody-waits t n xs)
  where
    go : (b : Bool) → eqb x.number n ≡ b → (not (has (phase_ticket x.session.phase) t) ≡ true) × (every (λ y. not (has (ticket_of y) t)) xs ≡ true)
        → (every (λ y. not (has (ticket_of y) t)) xs ≡ true → found_waits t (found (is_numbered n) xs) ≡ false)
        → found_waits t (found (is_numbered n) (some x ∷ xs)) ≡ false
    go true eb w ih = rw eb (waits-has t x.session.phase ∙ not-true (has (phase_ticket x.session.phase) t) w.0)
    go false eb w ih = rw eb (ih w.1)

-- the connection that waits on a ticket takes another session
pub find-ticket : (t n : ℕ) (y z : Connection) (xs : List Slot) → found (is_waiting t) xs ≡ some z → y.number ≡ z.number → differ ticket_of xs ≡ true
    → found (is_numbered n) (replaced (holding (is_waiting t)) (some y) xs) ≡ cond (found_waits t (found (is_numbered n) xs)) (some y) (found (is_numbered n) xs)
unfolding found replaced apart
find-ticket t n y z [] e h d = cc
find-ticket t n y z (none ∷ xs) e h d = find-ticket t n y z xs e h (both (every (λ (y : Slot). true) xs) (differ ticket_of xs) d).1
find-ticket t n y z (some x ∷ xs) e h d =
    go (is_waiting t x) refl (eqb x.number n) refl (both (every (λ y. not (clashes (phase_ticket x.session.phase) (ticket_of y))) xs) (differ ticket_of xs) d)
    (λ f. find-ticket t n y z xs f h)
  where
    go : (a : Bool) → is_waiting t x ≡ a → (b : Bool) → eqb x.number n ≡ b
        → (every (λ y. not (clashes (phase_ticket x.session.phase) (ticket_of y))) xs ≡ true) × (differ ticket_of xs ≡ true)
        → (found (is_waiting t) xs ≡ some z → differ ticket_of xs ≡ true
        → found (is_numbered n) (replaced (holding (is_waiting t)) (some y) xs) ≡ cond (found_waits t (found (is_numbered n) xs)) (some y) (found (is_numbered n) xs))
        → found (is_numbered n) (replaced (holding (is_waiting t)) (some y) (some x ∷ xs))
        ≡ cond (found_waits t (found (is_numbered n) (some x ∷ xs))) (some y) (found (is_numbered n) (some x ∷ xs))
    go true ea true eb w ih =
        let r : some x ≡ some z = rw ea at e in
        let g : x ≡ z = cc in
        let q : eqb y.number n ≡ true = ap (λ (k : ℕ). eqb k n) (h ∙ ap (λ (c : Connection). c.number) (sym g)) ∙ eb in
        rw (ea, eb, q, ea)
    go true ea false eb w ih =
        let r : some x ≡ some z = rw ea at e in
        let g : x ≡ z = cc in
        let q : eqb y.number n ≡ false = ap (λ (k : ℕ). eqb k n) (h ∙ ap (λ (c : Connection). c.number) (sym g)) ∙ eb in
        let k : phase_ticket x.session.phase ≡ some t = has_some (phase_ticket x.session.phase) t (sym (waits-has t x.session.phase) ∙ ea) in
        let a : every (λ y. not (has (ticket_of y) t)) xs ≡ true = rw k at w.0 in
        rw (ea, eb, q, nobody-waits t n xs a)
    go false ea true eb w ih = rw (ea, eb, ea)
    go false ea false eb w ih = rw (ea, eb) (ih (rw ea at e) w.1)
