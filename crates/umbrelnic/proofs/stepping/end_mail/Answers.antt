use Rattle.umbrelnic.proofs.stepping.end_mail.Goals as goal

pub returns : goal.returns
returns c = rw (c.write_connection.ensures, c.mail_ended.ensures, c.read_connection-connection.ensures)
