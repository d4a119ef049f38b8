-- The numbers of the errors that a system call answers (Filecoin FVM, "error numbers").
use Rattle.std.specs.Prelude.{ℕ}
use Rattle.fil_base.specs.declared.err_no.ErrNo.{ErrNo}
use Rattle.fil_base.specs.declared.err_no.ErrNo.TheVariants.{IllegalArgument, IllegalOperation, LimitExceeded, AssertionFailed, InsufficientFunds, NotFound, InvalidHandle, IllegalCid, IllegalCodec, Serialization, Forbidden, BufferTooSmall, ReadOnly}

-- the number of an error
abbrev pub error_number : ErrNo → ℕ
error_number IllegalArgument = 1
error_number IllegalOperation = 2
error_number LimitExceeded = 3
error_number AssertionFailed = 4
error_number InsufficientFunds = 5
error_number NotFound = 6
error_number InvalidHandle = 7
error_number IllegalCid = 8
error_number IllegalCodec = 9
error_number Serialization = 10
error_number Forbidden = 11
error_number BufferTooSmall = 12
error_number ReadOnly = 13
