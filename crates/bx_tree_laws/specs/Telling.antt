-- What a reply tells of a file's attributes.
use Rattle.std.specs.Prelude.{◌≡◌, ℕ, ◌^◌, ◌<◌, List, Contains, Option, Some, None}
use Rattle.bx_model.specs.declared.call.Args.{Args}
use Rattle.bx_model.specs.declared.call.Args.TheVariants as args
use Rattle.bx_model.specs.declared.reply.Reply.{Reply}
use Rattle.bx_model.specs.declared.reply.Reply.TheVariants as reply
use Rattle.bx_model.specs.declared.tree.Tree.{Tree}

-- the file handle of the file that a call is about, of the procedures that answer its attributes alone
abbrev pub handle_in : Args → Option (List ℕ)
handle_in (args.Handle at) = Some at
handle_in (args.Set at sattr) = Some at
handle_in (args.Read at offset count total) = Some at
handle_in (args.Write at begin offset total written) = Some at
handle_in _ = None

-- a reply tells the attributes, 17 words, of the file that a file handle names
abbrev pub Tells : Args → Reply → List ℕ → List ℕ → Type 0
Tells arguments (reply.Attributes words) at told = (handle_in arguments ≡ Some at) × (words ≡ told)
Tells arguments (reply.Bytes words bytes) at told = (handle_in arguments ≡ Some at) × (words ≡ told)
Tells arguments (reply.Handle text words) at told = (text ≡ at) × (words ≡ told)
Tells arguments _ at told = ⊥

-- the handles that were given out are numbers of 64 bits
abbrev pub HandlesFit : Tree → Type 0
HandlesFit tree = (handle : ℕ) → Contains tree.given handle → handle < 2 ^ 64
