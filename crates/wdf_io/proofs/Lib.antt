mod FilledLemmas
mod ServedLemmas
