use Rattle.image.specs.InPlace.{header_read}
use Rattle.server.specs.declared.Header.{Header}
use Rattle.session.specs.Limits.{unissued}
use Rattle.umbrelnic.proofs.Opens.{open_exhausted, open_gives, open-leaves}
use mathlib.Core.Path.{◌≡◌, refl, sym, ap, ◌∙◌}
use Rattle.umbrelnic.proofs.opening.enter_in.Goals as goal

pub returns-then-number : goal.returns-then-number
returns-then-number c = rw (open_exhausted c.args.image.now c.requires.0 c.args.profile c.args.protected _ c.requires.1
    (ap (λ (h : Header). h.connection) (sym c.read_header-header.ensures) ∙ c.if-number.true))
    (c.from.ensures, refl)

pub returns : goal.returns
returns c = let h : (header_read c.args.image.now).connection ≡ unissued → ⊥ = λ z. c.if-number.false (ap (λ (h : Header). h.connection) c.read_header-header.ensures ∙ z) in
    rw (open_gives c.args.image.now c.requires.0 c.args.profile c.args.protected _ c.requires.1 h) (
      rw c.read_header-header.ensures,
      rw (c.write_header.ensures, c.write_connection.ensures, c.opened-session.ensures, c.read_header-header.ensures)
          (open-leaves c.args.image.now c.requires.0 c.args.profile c.args.protected _ c.requires.1 h),
    )
