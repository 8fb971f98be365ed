use Rattle.image.proofs.Keys.{free_new}
use Rattle.image.proofs.Walk.{free-joins, open-joins, open_misfits, open-repeats}
use mathlib.Core.Bool.{true≢false}
use mathlib.Core.Path.{refl, sym, ◌∙◌}
use Rattle.image.proofs.fits.slot_joins.Goals as goal

pub returns-then-not-read_flag : goal.returns-then-not-read_flag
returns-then-not-read_flag c = let f = sym c.read_flag.ensures ∙ c.if-not-read_flag.true in (
  rw c.is_free.ensures (free-joins _ _ c.args.i c.requires.0 f _ c.requires.1 _ c.requires.2),
  λ e. (free_new _ c.args.i c.requires.0 _ _ _ c.requires.1 refl f).1,
  λ e. (free_new _ c.args.i c.requires.0 _ _ _ c.requires.2 refl f).1,
)

pub returns-then-not-connection_fits : goal.returns-then-not-connection_fits
returns-then-not-connection_fits c = let f = sym c.read_flag.ensures ∙ c.if-not-read_flag.false in
    let n = sym c.connection_fits.ensures ∙ c.if-not-connection_fits.true in
    (open_misfits _ _ c.args.i c.requires.0 f n, λ e. absurd (true≢false (sym e)), λ e. absurd (true≢false (sym e)))

pub returns-then-not-adds : goal.returns-then-not-adds
returns-then-not-adds c = let f = sym c.read_flag.ensures ∙ c.if-not-read_flag.false in
    let n = sym c.adds.ensures.0 ∙ c.if-not-adds.true in
    (open-repeats _ _ c.args.i c.requires.0 f n, λ e. absurd (true≢false (sym e)), λ e. absurd (true≢false (sym e)))

pub returns : goal.returns
returns c = let f = sym c.read_flag.ensures ∙ c.if-not-read_flag.false in
    let fits = sym c.connection_fits.ensures ∙ c.if-not-connection_fits.false in
    let r = c.if-not-adds.false in
    (c.adds-2.ensures.0 ∙ open-joins _ _ c.args.i c.requires.0 f fits (sym c.adds.ensures.0 ∙ r), λ e. c.adds.ensures.1 r, c.adds-2.ensures.1)
