-- The end of a stream whose text isn't read, or whose certificate isn't accepted.
use Rattle.am_syntax.specs.declared.refusal.ReadError.{ReadError}
use Rattle.am_syntax.specs.declared.refusal.ReadError.TheVariants as read
use Rattle.am_cert.specs.declared.checking.CheckFail.{CheckFail}
use Rattle.am_cert.specs.declared.checking.CheckFail.TheVariants as check
use Rattle.am_cert.specs.declared.feed.FeedEnd.{FeedEnd}
use Rattle.am_cert.specs.declared.feed.FeedEnd.TheVariants.{NoMemory, Refused, Rejected}

-- the end of a stream whose text isn't read
abbrev pub unread : ReadError → FeedEnd
unread (read.Refused r) = Refused r
unread read.NoMemory = NoMemory

-- the end of a stream whose certificate isn't accepted
abbrev pub unaccepted : CheckFail → FeedEnd
unaccepted (check.Rejected f) = Rejected f
unaccepted check.NoMemory = NoMemory
