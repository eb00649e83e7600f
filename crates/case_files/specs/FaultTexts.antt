-- What a refusal of a file of cases says.
use Rattle.std.specs.Prelude.{ℕ, List, ◌++◌, Option, Some, codes}
use Rattle.std.specs.Fmt.{decimal}
use Rattle.case_files.specs.declared.fault.CaseFault.{CaseFault}
use Rattle.case_files.specs.declared.fault.CaseFaultKind.{CaseFaultKind}
use Rattle.case_files.specs.declared.fault.CaseFaultKind.TheVariants as kind

-- what is wrong with a line, in words
abbrev pub kind_text : CaseFaultKind → List ℕ
kind_text kind.NotUtf8 = codes "the line isn't UTF-8"
kind_text kind.Tab = codes "the line begins with a tab; blocks are indented by spaces"
kind_text kind.Stray = codes "an indented line stands before any line that has a block"
kind_text kind.UnknownWord = codes "no line of a case begins with this word"
kind_text kind.NoName = codes "the case has no name"
kind_text kind.Outside = codes "the line belongs to a case, and none has begun"
kind_text kind.Repeated = codes "the case has such a line already"
kind_text kind.NoBlock = codes "the line is indented, but the head line before it has no block"
kind_text kind.BadForm = codes "a block is plain, `raw` or `unended`"
kind_text kind.BadEscape = codes "the escapes of a raw block are \\n, \\s, \\\\ and \\xHH"
kind_text kind.OpenQuote = codes "a quote isn't closed"
kind_text kind.BadNumber = codes "a decimal that fits is wanted"
kind_text kind.NoWords = codes "the case has no line `words`"
kind_text kind.NoStatus = codes "the case has no line `status`"
kind_text kind.NoInput = codes "the case has neither `tape` nor `input`"
kind_text kind.TwoInputs = codes "the case has both `tape` and `input`"

-- the line that is refused, and what is wrong with it
abbrev pub fault_text : CaseFault → List ℕ
fault_text f = codes "line " ++ (decimal f.line ++ (codes ": " ++ kind_text f.kind))

-- what a kind of fault prints
abbrev pub kind_shown : CaseFaultKind → Option (List ℕ)
kind_shown k = Some (kind_text k)

-- what a fault prints
abbrev pub fault_shown : CaseFault → Option (List ℕ)
fault_shown f = Some (fault_text f)
