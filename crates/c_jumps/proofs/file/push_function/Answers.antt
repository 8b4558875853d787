use Rattle.std.proofs.Common.{ℕ, List, ◌++◌, Some, None, sym, ap, ◌∙◌, append-nil}
use Rattle.c_jumps.proofs.Files.{name_of_function}
use Rattle.c_jumps.proofs.file.push_function.Goals as goal

pub returns-in_ok-push-in-Some : goal.returns-in_ok-push-in-Some
returns-in_ok-push-in-Some c = λ kind_of bytes_of.
    c.in_ok-push-in-Some.ensures.items ∙
    ap (λ (more : List ℕ). c.args.functions.now.items ++ more)
    (name_of_function kind_of bytes_of c.args.item.now c.in-Define.specs c.in-Define.declarator c.in-Define.body (Some c.in-Some.name) c.in-Define.is (c.in-Some.ensures kind_of bytes_of))

pub returns-in-None : goal.returns-in-None
returns-in-None c = λ kind_of bytes_of.
    sym (append-nil c.args.functions.now.items) ∙
    ap (λ (more : List ℕ). c.args.functions.now.items ++ more)
    (name_of_function kind_of bytes_of c.args.item.now c.in-Define.specs c.in-Define.declarator c.in-Define.body None c.in-Define.is (c.in-None.ensures kind_of bytes_of))
