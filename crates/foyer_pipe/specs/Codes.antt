-- What stands for a store's answers in a reply: a code, and the bytes of a value.
use Rattle.std.specs.Prelude.{ℕ, Bool, true, false, List, [], Result, Ok, Err}
use Rattle.std.specs.Global.{Vec}
use Rattle.foyer_device_page.specs.Error.{kind_of}
use Rattle.foyer_device_page.specs.declared.error.Error.{Error}
use Rattle.foyer_device_page.specs.declared.error.Error.TheVariants as error
use Rattle.foyer_device_page.specs.declared.error.ErrorKind.{ErrorKind}
use Rattle.foyer_device_page.specs.declared.error.ErrorKind.TheVariants as kind
use Rattle.foyer_frames.specs.declared.request.Fault.{Fault}
use Rattle.foyer_frames.specs.declared.request.Fault.TheVariants as fault
use Rattle.foyer_storage_engine.specs.declared.engine.Enqueued.{Enqueued}
use Rattle.foyer_storage_engine.specs.declared.engine.Enqueued.TheVariants as enqueued
use Rattle.foyer_storage_engine.specs.declared.load.Load.{Load}
use Rattle.foyer_storage_engine.specs.declared.load.Load.TheVariants as load

-- the code of an error: 64 and the kind's number
abbrev pub error_code : ErrorKind → ℕ
error_code kind.Io = 65
error_code kind.Memory = 66
error_code kind.Config = 67
error_code kind.Parse = 68
error_code kind.MagicMismatch = 69
error_code kind.ChecksumMismatch = 70
error_code kind.OutOfRange = 71
error_code kind.BufferSizeLimit = 72
error_code kind.NoSpace = 73
error_code kind.Recover = 74
error_code kind.Closed = 75
error_code kind.Unsupported = 76
error_code kind.SequenceEnd = 77

-- the code of a frame that is none
abbrev pub fault_code : Fault → ℕ
fault_code fault.Short = 128
fault_code fault.UnknownKind = 129
fault_code fault.KeyTooLong = 130
fault_code fault.ValueTooLong = 131
fault_code fault.UnwantedKey = 132
fault_code fault.UnwantedValue = 133

-- the code of the answer to a put: done, not taken since it is young, or not taken and deleted
abbrev pub put_code : Result Enqueued Error → ℕ
put_code (Ok enqueued.Queued) = 0
put_code (Ok enqueued.Ignored) = 3
put_code (Ok enqueued.Deleted) = 4
put_code (Err e) = error_code (kind_of e)

-- the code of the answer to a delete, a wait, a destroy or a close
abbrev pub done_code : Result (Unit {0}) Error → ℕ
done_code (Ok done) = 0
done_code (Err e) = error_code (kind_of e)

-- a wait or a close that is done, but puts that were answered before were abandoned: an I/O error
abbrev pub done_unless_abandoned : Result (Unit {0}) Error → Bool → Result (Unit {0}) Error
done_unless_abandoned (Ok done) true = Err error.Io
done_unless_abandoned (Ok done) false = Ok done
done_unless_abandoned (Err e) is_abandoned = Err e

-- the code of the answer to a question: yes or no
abbrev pub whether_code : Result Bool Error → ℕ
whether_code (Ok true) = 6
whether_code (Ok false) = 7
whether_code (Err e) = error_code (kind_of e)

-- the code of the answer to a get: its value, none, or held back
abbrev pub get_code : {K V P A : Type 0} → Result (Load K V P A) Error → ℕ
get_code (Ok (load.Entry key value populated)) = 1
get_code (Ok (load.Piece piece populated)) = 1
get_code (Ok load.Miss) = 2
get_code (Ok load.Throttled) = 5
get_code (Err e) = error_code (kind_of e)

-- the bytes of that value
abbrev pub get_bytes : {K P A : Type 0} → Result (Load K (Vec ℕ) P A) Error → List ℕ
get_bytes (Ok (load.Entry key value populated)) = value.items
get_bytes (Ok (load.Piece piece populated)) = piece.value.items
get_bytes (Ok load.Miss) = []
get_bytes (Ok load.Throttled) = []
get_bytes (Err e) = []
