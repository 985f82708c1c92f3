-- Why a directory isn't locked, and what is printed then.
use Rattle.std.specs.Prelude.{◌≡◌, ℕ, ◌⊎◌, List, ◌++◌, codes}
use Rattle.foyer_device_page.specs.declared.error.Error.{Error}
use Rattle.foyer_device_page.specs.declared.error.Error.TheVariants as error
use Rattle.foyer_device_page.specs.Error.{kind_name, kind_of}
use Rattle.foyer_directory.specs.declared.lock.LockError.{LockError}
use Rattle.foyer_directory.specs.declared.lock.LockError.TheVariants as refusal

-- the refusals of a lock: of an error, only `Io` and `Memory`
abbrev pub IsLockError : LockError → Type 0
IsLockError refusal.InUse = Unit {0}
IsLockError refusal.OtherShape = Unit {0}
IsLockError (refusal.Fault e) = (e ≡ error.Io) ⊎ (e ≡ error.Memory)
IsLockError (refusal.System code) = Unit {0}

-- whether its line has no words of the system
abbrev pub IsNamed : LockError → Type 0
IsNamed (refusal.System code) = ⊥
IsNamed refusal.InUse = Unit {0}
IsNamed refusal.OtherShape = Unit {0}
IsNamed (refusal.Fault e) = Unit {0}

abbrev pub error_of : LockError → Error
error_of refusal.InUse = error.Io
error_of refusal.OtherShape = error.Config
error_of (refusal.Fault e) = e
error_of (refusal.System code) = error.Io

abbrev pub text_of : LockError → List ℕ
text_of refusal.InUse = codes "the directory is in use"
text_of refusal.OtherShape = codes "its block size, cores and log must be those in its foyer.lock"
text_of (refusal.Fault _) = codes "the directory couldn't be opened"
text_of (refusal.System code) = codes "the directory couldn't be opened"

abbrev pub after : List ℕ → List ℕ
after words = codes ": " ++ words

-- the text and the kind of the error, to the line's end
abbrev pub reason : LockError → List ℕ
reason why = after (text_of why) ++ (after (kind_name (kind_of (error_of why))) ++ codes "\n")

abbrev pub refusal_line : List ℕ → List ℕ → LockError → List ℕ
refusal_line program directory why = program ++ (after directory ++ reason why)
