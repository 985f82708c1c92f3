-- Errors and their kinds.
use Rattle.std.specs.Prelude.{◌≡◌, ℕ, List, codes}
use Rattle.std.specs.IoError.{error_kind}
use Rattle.std.specs.declared.io.Error.{Error as IoError}
use Rattle.std.specs.declared.io.ErrorKind.TheVariants.{WriteZero}
use Rattle.foyer_device_page.specs.declared.error.Error.{Error}
use Rattle.foyer_device_page.specs.declared.error.Error.TheVariants as error
use Rattle.foyer_device_page.specs.declared.error.ErrorKind.{ErrorKind}
use Rattle.foyer_device_page.specs.declared.error.ErrorKind.TheVariants as kind

abbrev pub kind_of : Error → ErrorKind
kind_of error.Io = kind.Io
kind_of error.Memory = kind.Memory
kind_of error.Config = kind.Config
kind_of error.Parse = kind.Parse
kind_of error.MagicMismatch = kind.MagicMismatch
kind_of error.ChecksumMismatch = kind.ChecksumMismatch
kind_of error.OutOfRange = kind.OutOfRange
kind_of error.BufferSizeLimit = kind.BufferSizeLimit
kind_of error.NoSpace = kind.NoSpace
kind_of error.Recover = kind.Recover
kind_of error.Closed = kind.Closed
kind_of error.Unsupported = kind.Unsupported
kind_of error.SequenceEnd = kind.SequenceEnd

-- the name of a kind
abbrev pub kind_name : ErrorKind → List ℕ
kind_name kind.Io = codes "Io"
kind_name kind.Memory = codes "Memory"
kind_name kind.Config = codes "Config"
kind_name kind.Parse = codes "Parse"
kind_name kind.MagicMismatch = codes "MagicMismatch"
kind_name kind.ChecksumMismatch = codes "ChecksumMismatch"
kind_name kind.OutOfRange = codes "OutOfRange"
kind_name kind.BufferSizeLimit = codes "BufferSizeLimit"
kind_name kind.NoSpace = codes "NoSpace"
kind_name kind.Recover = codes "Recover"
kind_name kind.Closed = codes "Closed"
kind_name kind.Unsupported = codes "Unsupported"
kind_name kind.SequenceEnd = codes "SequenceEnd"

-- what a failed writer answers
abbrev pub IsWriterFault : Error → Type 0
IsWriterFault error.Io = Unit {0}
IsWriterFault error.BufferSizeLimit = Unit {0}
IsWriterFault _ = ⊥

-- what this failure of a writer is: one that takes nothing more is full, every other failure is the writer's own
abbrev pub IsFaultOf : IoError → Error → Type 0
IsFaultOf io e =
    IsWriterFault e × (error_kind io ≡ WriteZero → e ≡ error.BufferSizeLimit) × ((error_kind io ≡ WriteZero → ⊥) → e ≡ error.Io)

-- what a refused decoding answers
abbrev pub IsDecodeFault : Error → Type 0
IsDecodeFault error.Memory = Unit {0}
IsDecodeFault error.Parse = Unit {0}
IsDecodeFault _ = ⊥
