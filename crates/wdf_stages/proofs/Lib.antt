mod AnswerLemmas
mod SourceLemmas
mod WalkElements
