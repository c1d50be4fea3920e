-- What the code of the query promises, in the terms of Query.
use Rattle.std.specs.Prelude.{Ok, Err, []}
use Rattle.session_query.specs.declared.Question.{Question}
use Rattle.session_query.specs.Query.{QueryRead, fault, says, filled}

-- a query with its bytes, or the cause with zeros
abbrev pub question_of : QueryRead → Question
question_of (fault cause) = record { asking = Err cause; query = record { bytes = filled [] } }
question_of (says b) = record { asking = Ok tt; query = record { bytes = filled b } }
