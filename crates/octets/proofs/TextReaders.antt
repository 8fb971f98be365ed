-- Of a reading that took what stands there, and of one that did not: the index reached. docs/PORT.md names
-- the first law; no proof cites them now. Assumes nothing.
use mathlib.Core.Path.{◌≡◌}
use mathlib.Core.List.{List}
use Prim.Native.Nat.{ℕ}
use Rattle.std.specs.Prelude.{Option, Some, None, Result, Ok, Err}
use Rattle.octets.specs.Reader.{end, measuring, decoding}
use Rattle.octets.specs.declared.DecodeError.{DecodeError}

module _ (l : List ℕ) (at : ℕ) where
  pub measured-took : (n e : ℕ) (m : Option ℕ) → m ≡ Some n → e ≡ end l at → record { answer = m; at = e } ≡ measuring m l at
  measured-took n e m f g = rw (f, g)

  pub measured-left : (m : Option ℕ) → m ≡ None → record { answer = m; at = at } ≡ measuring m l at
  measured-left m f = rw f

  pub decoded-took : (n e : ℕ) (d : Result ℕ DecodeError) → d ≡ Ok n → e ≡ end l at → record { answer = d; at = e } ≡ decoding d l at
  decoded-took n e d f g = rw (f, g)

  pub decoded-left : (d : Result ℕ DecodeError) (r : DecodeError) → d ≡ Err r → record { answer = d; at = at } ≡ decoding d l at
  decoded-left d r f = rw f
