use Rattle.session.proofs.Challenges.{no-challenge, three-parts}
use Rattle.std.proofs.Common.{ap, length, arith}
use Rattle.session.proofs.answer.write_challenge.Goals as goal

pub returns-then-out-to : goal.returns-then-out-to
returns-then-out-to c = no-challenge c.args.profile c.args.bytes.now c.args.out.now _ _ (ap length c.challenge_prefix-from.ensures) c.div_ceil.ensures (omega arith)

pub returns : goal.returns
returns c = three-parts c.args.profile c.args.bytes.now c.args.out.now _ _ (ap length c.challenge_prefix-from.ensures) c.div_ceil.ensures (omega arith)
    c.begin_challenge.ensures.1
    c.encode.ensures.1
    c.end_line.ensures
