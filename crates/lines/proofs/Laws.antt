-- The laws of the readings. Assumes nothing.
-- a reading of a response, and one of an AUTH line, where an exchange runs or none, tells nothing of base64 but its shape
pub use Rattle.lines.proofs.Alikes.{same-response, spaced-response, same-auth, same-name-text, same-command}
-- AUTH lines that differ in the case of letters alone are read alike
pub use Rattle.lines.proofs.Spellings.{ReadAlike, spelled-alike}
-- a line that begins with AUTH and a space is an AUTH line, or not understood
pub use Rattle.lines.proofs.Alikes.{command-line, spaceless}
-- the text that an AUTH line's reading points to is the response
pub use Rattle.lines.proofs.Alikes.{initial-text}
-- what a reading points to is a mechanism's name, and base64 of the length told
pub use Rattle.lines.proofs.Readings.{name-read, name-read-initial, initial-read, initial-fits, response-read}
-- what an AUTH line's reading points to is what the line says
pub use Rattle.lines.proofs.Says.{auth-says}
-- a command's reading holds that of the MAIL or AUTH line that it is
pub use Rattle.lines.proofs.Readings.{Holds, command-read}
-- names of the form are told apart by their twenty octets
pub use Rattle.lines.proofs.Names.{padded-length, padded-same}
