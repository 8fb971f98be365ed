use Rattle.base64text.proofs.Laws.{unchecked-decoded}
use Rattle.session.specs.Octets.{response_text}
use Rattle.umbrelnic.specs.Private.{handed_in}
use mathlib.Core.Path.{sym, ◌∙◌}
use Rattle.umbrelnic.proofs.stepping.hand_over.Goals as goal

pub returns-then-is_query : goal.returns-then-is_query
unfolding handed_in
returns-then-is_query c = let e = sym c.is_query.ensures ∙ c.if-is_query.true in
    rw e (c.decode_response_unchecked.ensures ∙ unchecked-decoded (response_text c.args.view c.args.line.now) c.args.out.now (c.requires e))

pub returns-then-relays_address : goal.returns-then-relays_address
unfolding handed_in
returns-then-relays_address c = rw (sym c.is_query.ensures ∙ c.if-is_query.false, sym c.relays_address.ensures ∙ c.if-relays_address.true) c.decode_address.ensures.1

pub returns-else-relays_address : goal.returns-else-relays_address
unfolding handed_in
returns-else-relays_address c = rw (sym c.is_query.ensures ∙ c.if-is_query.false, sym c.relays_address.ensures ∙ c.if-relays_address.false)
