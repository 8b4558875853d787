mod Composing
mod Counting
mod Escaping
mod LineByLine
