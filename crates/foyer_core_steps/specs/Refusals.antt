-- What a refused step is answered as.
use Rattle.foyer_device_page.specs.declared.error.Error.{Error}
use Rattle.foyer_device_page.specs.declared.error.Error.TheVariants as error
use Rattle.foyer_device_page.specs.declared.error.ErrorKind.{ErrorKind}
use Rattle.foyer_device_page.specs.declared.error.ErrorKind.TheVariants as kind

abbrev pub error_of : ErrorKind → Error
error_of kind.Io = error.Io
error_of kind.Memory = error.Memory
error_of kind.Config = error.Config
error_of kind.Parse = error.Parse
error_of kind.MagicMismatch = error.MagicMismatch
error_of kind.ChecksumMismatch = error.ChecksumMismatch
error_of kind.OutOfRange = error.OutOfRange
error_of kind.BufferSizeLimit = error.BufferSizeLimit
error_of kind.NoSpace = error.NoSpace
error_of kind.Recover = error.Recover
error_of kind.Closed = error.Closed
error_of kind.Unsupported = error.Unsupported
error_of kind.SequenceEnd = error.SequenceEnd
