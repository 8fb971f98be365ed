-- The cases marked P, by computation. Assumes nothing.
use mathlib.Core.Path.{refl}
use Rattle.octets.specs.Ascii.{capital}
use Rattle.octets.specs.Lists.{every, one_to, same, before, after}
use Rattle.base64text.specs.Base64
use Rattle.xtext.specs.Xtext
use Rattle.profile.specs.Texts.{words, reply}
use Rattle.lines.specs.Verb.{verb, verb_of}
use Rattle.lines.specs.Auth.{initial, arguments, auth}
use Rattle.lines.specs.Command.{forbidden, understood, command}
use Rattle.lines.specs.Response.{response}
use Rattle.session.specs.View.{view_in}
use Rattle.session.specs.Octets.{query_octets}
use Rattle.session.specs.Answer.{heard}
use Rattle.session.specs.Auth.{on_auth}
use Rattle.session.specs.Command.{on_command}
use Rattle.session.specs.Response.{on_response}
use Rattle.session.specs.Line.{after_line}
use Rattle.claims.specs.Cases.{Cases}

pub cases-hold : Cases
unfolding every one_to same before after capital words reply verb verb_of initial arguments auth forbidden understood command response view_in query_octets heard on_auth on_command on_response after_line Base64.alphabet Base64.value Base64.group_of Base64.valid Base64.octets Xtext.digits Xtext.digit Xtext.number Xtext.valid Xtext.octets
cases-hold = refl
